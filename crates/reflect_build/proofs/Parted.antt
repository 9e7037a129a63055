-- What the parts of a pool are linked with, which files it has not yet, and what stays of it.
use Rattle.std.proofs.Common.{◌≡◌, ◌∙◌, ◌≤◌, ◌+◌, ◌^◌, ℕ, Bool, true, List, Option, Some, None, Result, Ok, Err, IsErrAnd, OnErr, OnOk, length, nat_le, sum_by, ap, refl, subst, sym}
use Rattle.std.proofs.lemmas.Bool.{le-leb, leb-true}
use Rattle.descriptor_records.specs.declared.file.FileDescriptorProto.{FileDescriptorProto}
use Rattle.reflect_declarations.specs.declared.offsets.Offsets.{Offsets}
use Rattle.reflect_scope.specs.FileIndexes.{Indexes}
use Rattle.reflect_growth.specs.Cut.{cut_to}
use Rattle.reflect_tables.specs.Types.{PoolType}
use Rattle.reflect_pool.specs.Imports.{StandsAlone}
use Rattle.reflect_pool.specs.Linked.{AreIndexed}
use Rattle.reflect_pool.specs.declared.parts.PoolParts.{PoolParts}
use Rattle.reflect_build.specs.Many.{entries_of, in_file}
use Rattle.reflect_build.specs.Parts.{AreParts, StaysOrGrows, holds_of, linking_of, offsets_of}
use Rattle.reflect_build.specs.Refusals.{AreTooMany, CountsOf, IsOf, Linking, linking, new_files}
use Rattle.reflect_build.proofs.Refused.{is_of}

pub linking_same : (q : PoolParts) (before : Offsets) (first : ℕ) → CountsOf (holds_of q) before
    → first ≡ length q.tables.files.items
    → linking q.file_names q.names q.links.items q.tables q.extension_numbers before first
    ≡ linking_of q
linking_same q before first counts start =
    λ i. linking q.file_names q.names q.links.items q.tables q.extension_numbers
    (record {
      messages = counts.messages i;
      enums = counts.enums i;
      extensions = counts.extensions i;
      services = counts.services i;
    })
    (start i)

pub is_of_parts : (q : PoolParts) → AreParts q → IsOf (holds_of q) (linking_of q)
is_of_parts q fit =
    is_of q.tables q.names q.file_names q.links.items q.extension_numbers
    (offsets_of (holds_of q)) (length q.tables.files.items) (holds_of q) fit
    (record { messages = refl; enums = refl; extensions = refl; services = refl }) refl refl

-- names have one index
one_index : (a b : Indexes) (ns : List (List ℕ)) → AreIndexed a ns → AreIndexed b ns
    → (t : List ℕ) → a t ≡ b t
one_index a b ns are also t = by (a t) (b t) refl refl where
  by : (x y : Option ℕ) → a t ≡ x → b t ≡ y → a t ≡ b t
  by (Some i) y e f = e ∙ sym ((also t i).1 ((are t i).0 e))
  by None (Some i) e f = (are t i).1 ((also t i).0 f) ∙ sym f
  by None None e f = e ∙ sym f

-- and so a pool has one list of files that it has not yet
pub one_new : (p : PoolType) (v w : Linking) (fs : List FileDescriptorProto) → IsOf p v → IsOf p w
    → new_files v.indexes fs ≡ new_files w.indexes fs
one_new p v w fs is also =
    ap (λ x. new_files x fs) (λ i t. one_index v.indexes w.indexes _ is.files also.files t i)

-- what was counted of the parts and of the files that are new to them tells whether they are too
-- many
module _ (q : PoolParts) (fit : AreParts q) (fs kept : List FileDescriptorProto) (told : Bool)
    (new : kept ≡ new_files (linking_of q).indexes fs)
    (is : told ≡ nat_le (2 ^ 31) (entries_of (holds_of q) + sum_by in_file kept)) where
  pub told_many : told ≡ true → AreTooMany (holds_of q) fs
  told_many is_so = (
    linking_of q,
    is_of_parts q fit,
    subst (λ xs. 2 ^ 31 ≤ entries_of (holds_of q) + sum_by in_file xs) new
        (leb-true _ _ (sym is ∙ is_so)),
  )

  pub many_told : AreTooMany (holds_of q) fs → told ≡ true
  many_told many =
      let same = one_new (holds_of q) many.0 (linking_of q) fs many.1 (is_of_parts q fit) in
      is ∙ le-leb _ _ (subst (λ xs. 2 ^ 31 ≤ entries_of (holds_of q) + sum_by in_file xs)
      (same ∙ sym new) many.2)

-- what is refused before anything is changed leaves the pool
pub stays : {T E : Type 0} (r : Result T E) (Q : E → Type 0) (p : PoolType) → IsErrAnd r Q
    → StaysOrGrows r p p
stays (Ok x) Q p h = absurd h
stays (Err e) Q p h = record { unchanged = refl; grown = tt; can_cut = tt }

-- linking leaves it, or adds to it
pub grows : {T E : Type 0} (r : Result T E) (p q : PoolType) (n : ℕ) → n ≡ length p.files
    → StandsAlone p → OnErr r (q ≡ p) → OnOk r (cut_to q n ≡ p) → StaysOrGrows r p q
grows (Ok x) p q n count alone unchanged grown =
    let same : cut_to q (length p.files) ≡ p = ap (cut_to q) (sym count) ∙ grown in
    record { unchanged = tt; grown = same; can_cut = subst StandsAlone (sym same) alone }
grows (Err e) p q n count alone unchanged grown =
    record { unchanged = unchanged; grown = tt; can_cut = tt }
