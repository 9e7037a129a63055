-- What is found at the path of an entry is its record.
use Rattle.std.proofs.Common.{◌≡◌, ◌∙◌, ℕ, ℤ, List, Option, None, Some, IsSome, Bor, slice_get, ap, refl, sym}
use Rattle.std.specs.Option.{option_copied}
use Rattle.descriptor_records.specs.declared.file.FileDescriptorProto.{FileDescriptorProto}
use Rattle.reflect_tables.specs.Types.{PoolType}
use Rattle.reflect_pool.specs.AtPaths.{Stands, IsRecordAt}

some : {X : Type 0} (o : Option (Bor X)) (x : X) → option_copied o ≡ Some x → IsSome o
some None x e = absurd (cc e)
some (Some b) x e = refl

module _ {X : Type 0} (along : FileDescriptorProto → List ℤ → Option X) (name_of : X → List ℕ)
    (p : PoolType) (file : ℕ) (path : List ℤ) (name : List ℕ)
    (s : Stands along name_of p file path name) (f : FileDescriptorProto)
    (there : slice_get p.records file ≡ Some f) (seen : List ℤ) (same : seen ≡ path)
    (o : Option (Bor X)) (found : option_copied o ≡ along f seen) where
  is_own : option_copied o ≡ Some s.own
  is_own =
      let one : f ≡ s.of_file = cc (sym there ∙ s.there) in
      found ∙ ap (along f) same ∙ ap (λ (g : FileDescriptorProto). along g path) one ∙ s.at

  pub is_there : IsSome o
  is_there = some o s.own is_own

  pub lent : (r : Bor X) → o ≡ Some r → IsRecordAt along name_of p file path name r.now
  lent r is =
      let both : Some s.own ≡ Some r.now = sym is_own ∙ ap option_copied is in
      (s, cc both)
