-- A tree has one list of locations in a text.
use Rattle.std.proofs.Common.{◌≡◌, ℕ, List}
use Rattle.std.proofs.lemmas.Cmp.{int_cmp_total, lists_total}
use Rattle.std.proofs.lemmas.List.Sorted.{ranks_by}
use Rattle.descriptor_records.specs.Content.{LocationContent}
use Rattle.protox_laws.proofs.Orders.{one_sorted}
use Rattle.protox_lex.specs.Class.{Text}
use Rattle.protox_locate.specs.Files.{AreLocations, file_events, is_before}
use Rattle.protox_locate.specs.Located.{located}
use Rattle.protox_tree.specs.FileTree.{File}

pub same_locations : (z : Text) (feeds : List ℕ) (tree : File) (a b : List LocationContent) → AreLocations z feeds tree a → AreLocations z feeds tree b → a ≡ b
same_locations z feeds tree a b h k =
    one_sorted is_before (ranks_by (lists_total int_cmp_total) (λ (l : LocationContent). l.path)) (located z feeds (file_events tree)) a b h.ascend h.same k.ascend k.same
