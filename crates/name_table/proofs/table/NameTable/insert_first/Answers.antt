use Rattle.std.proofs.Common.{◌≡◌, Some, None, sym, ap, ◌∙◌, subst, string_bytes, rules}
use Rattle.std.proofs.Math.Path.{fun_ext}
use Rattle.std.proofs.lemmas.Map.Text.{btree_map_updates_text}
use Rattle.std.specs.Map.{update}
use Rattle.std.specs.Str.{bytes_eq}
use Rattle.std.specs.BTreeMap.{get_by_text}
use Rattle.name_table.specs.Slots.{in_slots, in_both}
use Rattle.name_table.specs.Known.{known_in}
use Rattle.name_table.specs.Puts.{PutsIfFree}
use Rattle.name_table.specs.declared.slot.Slot.{Slot}
use Rattle.name_table.proofs.Puts.{in_neither, both_by_crowded, apart_after_crowded, both_same, apart_same, first_new}
use Rattle.name_table.proofs.table.NameTable.insert_first.Goals as goal

pub invariant_of-self-in-None-held_at : goal.invariant_of-self-in-None-held_at
invariant_of-self-in-None-held_at g c =
    let t = c.args.self.now in
    let slots = c.put_if_free.new.slots in
    let slot = c.in-Some-2.slot in
    let h = c.hash_of-hash.result in
    let given : Slot g.row.V.Denot = record { name = c.in_ok-from_str.field-0; value = c.args.value } in
    let puts : PutsIfFree t.slots slots h given (Some slot) = subst (PutsIfFree t.slots slots h given) c.in-Some-2.is c.in_ok-put_if_free.ensures.puts in
    let name : string_bytes slot.name ≡ c.args.name.now = ap (λ s. string_bytes s.name) puts.1 ∙ c.in_ok-from_str.ensures.ok in
    let none : in_slots slots (string_bytes slot.name) ≡ None = ap (in_slots slots) name ∙ sym c.held_at.ensures ∙ c.in-None-held_at.is in
    record { apart = apart_after_crowded c.insert.result slots t.crowded c.insert.new.self slot.name slot.value none c.insert.ensures.updates c.insert.ensures.err (apart_same t.slots slots t.crowded puts.2 t.apart) }

pub returns-in_ok-insert-in-None-held_at-clause-known :
    goal.returns-in_ok-insert-in-None-held_at-clause-known
unfolding known_in
returns-in_ok-insert-in-None-held_at-clause-known g c =
    let t = c.args.self.now in
    let slots = c.put_if_free.new.slots in
    let slot = c.in-Some-2.slot in
    let h = c.hash_of-hash.result in
    let given : Slot g.row.V.Denot = record { name = c.in_ok-from_str.field-0; value = c.args.value } in
    let puts : PutsIfFree t.slots slots h given (Some slot) = subst (PutsIfFree t.slots slots h given) c.in-Some-2.is c.in_ok-put_if_free.ensures.puts in
    let name : string_bytes slot.name ≡ c.args.name.now = ap (λ s. string_bytes s.name) puts.1 ∙ c.in_ok-from_str.ensures.ok in
    let value : slot.value ≡ c.args.value = ap (λ s. s.value) puts.1 in
    let here : in_slots slots c.args.name.now ≡ None = sym c.held_at.ensures ∙ c.in-None-held_at.is in
    let none : in_slots slots (string_bytes slot.name) ≡ None = ap (in_slots slots) name ∙ here in
    let nor : get_by_text t.crowded c.args.name.now ≡ None = search rules in
    let whole = fun_ext (both_same t.slots slots t.crowded puts.2) in
    let new : in_both t.slots t.crowded c.args.name.now ≡ None = sym (both_same t.slots slots t.crowded puts.2 c.args.name.now) ∙ in_neither slots t.crowded c.args.name.now here nor in
    fun_ext (both_by_crowded slots t.crowded c.insert.new.self (string_bytes slot.name) slot.value none (btree_map_updates_text (string_bytes slot.name) t.crowded c.insert.new.self (Some slot.value) c.in_ok-insert-in-None-held_at.ensures.updates))
    ∙ ap (λ n. update bytes_eq (in_both slots t.crowded) n (Some slot.value)) name
    ∙ ap (λ v. update bytes_eq (in_both slots t.crowded) c.args.name.now (Some v)) value
    ∙ ap (λ k. update bytes_eq k c.args.name.now (Some c.args.value)) whole
    ∙ sym (first_new (in_both t.slots t.crowded) c.args.name.now c.args.value new)
