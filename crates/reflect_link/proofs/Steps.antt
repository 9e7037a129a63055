-- Steps of paths that lead nowhere.
use Rattle.std.proofs.Common.{◌≡◌, ◌∙◌, ℤ, pos, List, [], ◌∷◌, None, Some, ap, sym, refl}
use Rattle.descriptor_records.specs.declared.file.FileDescriptorProto.{FileDescriptorProto}
use Rattle.descriptor_records.specs.declared.message.DescriptorProto.{DescriptorProto}
use Rattle.reflect_pool.specs.Records.{entry_of, nested_of, message_below, message_along}

-- nothing is below what is not there
below_none : (path : List ℤ) → message_below None path ≡ None
below_none [] = refl
below_none (n ∷ []) = refl
below_none (n ∷ k ∷ path) = below_none path

-- a path ends where its first step leads nowhere
pub nowhere : (f : FileDescriptorProto) (path rest : List ℤ) (n k : ℤ) → path ≡ n ∷ k ∷ rest → entry_of (pos 4) f.message_type.items n k ≡ None → None ≡ message_along f path
nowhere f path rest n k at none = sym (ap (message_along f) at ∙ ap (λ m. message_below m rest) none ∙ below_none rest)

pub nowhere_below : (d : DescriptorProto) (path rest : List ℤ) (n k : ℤ) → path ≡ n ∷ k ∷ rest → entry_of (pos 3) (nested_of d) n k ≡ None → None ≡ message_below (Some d) path
nowhere_below d path rest n k at none = sym (ap (message_below (Some d)) at ∙ ap (λ m. message_below m rest) none ∙ below_none rest)
