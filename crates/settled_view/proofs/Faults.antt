-- Files have the same faults behind a settled pool as behind the pool before, so lawful ones have none.
use Rattle.std.proofs.Common.{◌≡◌, ◌↔◌, inl, inr, List, [], map, ap, sym}
use Rattle.descriptor_records.specs.Content.{FileContent, file_view}
use Rattle.descriptor_records.specs.declared.file.FileDescriptorProto.{FileDescriptorProto}
use Rattle.reflect_build.specs.Refusals.{Linking, with_declared, IsOf, Faulty, FaultyExtensions, FaultyFiles, FaultyNumbers, new_files}
use Rattle.reflect_faults.specs.Faults.{Fault}
use Rattle.reflect_tables.specs.Types.{PoolType}
use Rattle.schema_view.specs.Lawful.{IsLawful, Meanings}
use Rattle.linked_view.specs.Kept.{IsKept}
use Rattle.linked_view.proofs.Lawful as unsettled
use Rattle.settled_view.specs.BuiltBut.{IsBuiltBut, ChangesOptions}
use Rattle.settled_view.proofs.Transfer.{kept_before}
use Rattle.settled_view.proofs.Unsettled.{linking, is_before, types_before, means_before, are_types_before}

module _ (before p : PoolType) (s : ChangesOptions before p) (w : Linking) (is : IsOf p w)
    (ns : List FileDescriptorProto) where
  abbrev own : Linking
  own = linking before p s w is

  numbers_before : (xs : List Fault) → FaultyNumbers (with_declared w ns) ns xs
      → FaultyNumbers (with_declared own ns) ns xs
  numbers_before xs (rs, t, means, declared, faults) = (
    rs,
    types_before before p s w is t,
    means_before before p s w is ns rs means,
    are_types_before before p s w is ns rs t declared,
    faults,
  )

  extensions_before : (xs : List Fault) → FaultyExtensions (with_declared w ns) ns xs
      → FaultyExtensions (with_declared own ns) ns xs
  extensions_before xs (rs, t, means, declared, numbers, faults) = (
    rs,
    types_before before p s w is t,
    means_before before p s w is ns rs means,
    are_types_before before p s w is ns rs t declared,
    numbers,
    faults,
  )

  faulty_before : (xs : List Fault) → Faulty w ns xs → Faulty own ns xs
  faulty_before xs (inl names) = inl names
  faulty_before xs (inr (named, inl references)) = inr (named, inl references)
  faulty_before xs (inr (named, inr (inl h))) = inr (named, inr (inl (numbers_before xs h)))
  faulty_before xs (inr (named, inr (inr h))) = inr (named, inr (inr (extensions_before xs h)))

-- ---- any files

-- the pool before differs from the settled one as that does from it
back : (before p : PoolType) → ChangesOptions before p → ChangesOptions p before
back before p s = record {
  settled = sym (ap (λ (q : PoolType). record q { records = before.records }) s.settled);
  bare = sym s.bare;
}

to_before : (before p : PoolType) → ChangesOptions before p → (files : List FileDescriptorProto)
    → (xs : List Fault) → FaultyFiles p files xs → FaultyFiles before files xs
to_before before p s files xs (w, is, faults) = (
  linking before p s w is,
  is_before before p s w is,
  faulty_before before p s w is (new_files w.indexes files) xs faults,
)

pub same_faults : (linked p : PoolType) → ChangesOptions linked p → (files : List FileDescriptorProto)
    → (xs : List Fault) → (FaultyFiles linked files xs ↔ FaultyFiles p files xs)
same_faults linked p s files xs =
    (to_before p linked (back linked p s) files xs, to_before linked p s files xs)

-- ---- lawful ones

module _ (earlier : List (List FileContent)) (old : PoolType) (w : Linking)
    (ns : List FileDescriptorProto) (meanings : Meanings) (built : IsBuiltBut earlier old)
    (kept : IsKept old) (is : IsOf old w)
    (lawful : IsLawful (map file_view built.linked.records) (map file_view ns) meanings) where
  abbrev before : PoolType
  before = built.linked

  abbrev s : ChangesOptions before old
  s = built.settles

  pub no_extension_faults : (xs : List Fault) → FaultyExtensions (with_declared w ns) ns xs → xs ≡ []
  no_extension_faults xs h =
      unsettled.no_extension_faults earlier before (linking before old s w is) ns meanings built.built
      (kept_before before old s kept).pooled (is_before before old s w is) lawful xs
      (extensions_before before old s w is ns xs h)

  pub no_number_faults : (xs : List Fault) → FaultyNumbers (with_declared w ns) ns xs → xs ≡ []
  no_number_faults xs h =
      unsettled.no_number_faults earlier before (linking before old s w is) ns meanings built.built
      (kept_before before old s kept).pooled (is_before before old s w is) lawful xs
      (numbers_before before old s w is ns xs h)

  pub no_faults : (xs : List Fault) → Faulty w ns xs → xs ≡ []
  no_faults xs h =
      unsettled.no_faults earlier before (linking before old s w is) ns meanings built.built
      (kept_before before old s kept).pooled (is_before before old s w is) lawful xs
      (faulty_before before old s w is ns xs h)
