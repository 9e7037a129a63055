use Rattle.std.proofs.Common.{◌≡◌, ◌<◌, ◌∙◌, length, ap, sym, rules}
use Rattle.std.proofs.Math.Seq.{map-set_same}
use Rattle.std.proofs.lemmas.List.{get_or_default}
use Rattle.reflect_tables.specs.declared.stored.StoredOneof.{StoredOneof}
use Rattle.reflect_index.specs.Grown.{oneof_name}
use Rattle.reflect_index.specs.Members.{IsMarked, is_lone, oneof_members}
use Rattle.reflect_index.proofs.Members.{all_set}
use Rattle.reflect_index.proofs.finish.mark_oneofs.Goals as goal

pub turns-preserved : goal.turns-preserved
turns-preserved c =
    let fields = c.args.fields.now in
    let items = c.turns.oneofs.items in
    let p = c.turns.place in
    let read = c.index.result.now in
    let was = c.index_mut.result.now in
    let now : StoredOneof = record { path = was.path; name = was.name; full_name = was.full_name; fields = was.fields; is_synthetic = c.is_lone-is_synthetic.result } in
    let before = c.turns.invariant in
    let inside : p < length items = search rules in
    let same : read ≡ was = c.index.ensures ∙ get_or_default items p read was inside ∙ sym c.index_mut.ensures.value in
    let here : IsMarked fields now = c.is_lone-is_synthetic.ensures ∙ ap (is_lone fields) (c.as_slice.ensures.value ∙ ap oneof_members same) in
    record {
      count = search rules;
      marked = all_set (IsMarked fields) items p now inside here before.marked;
      members = map-set_same oneof_members items p now was (ap oneof_members c.index_mut.ensures.value) ∙ before.members;
      names = map-set_same oneof_name items p now was (ap oneof_name c.index_mut.ensures.value) ∙ before.names;
    }
