use Rattle.std.proofs.Common.{rules, ◌≡◌, map, sym, subst}
use Rattle.std.proofs.lemmas.List.Sorted.{answers_always}
use Rattle.print_parts.specs.Entries.{IsArranged, number_of}
use Rattle.print_parts.specs.Parts.{declared_entry}
use Rattle.print_parts.specs.declared.entries.Declared.{Declared}
use Rattle.print_parts.proofs.Choosing.{by_number}
use Rattle.print_parts.proofs.entries.declared_fields.Goals as goal

pub returns : goal.returns
returns c =
    let found = c.in_ok-fields.fields.items in
    let sorted = c.sort_by_key.new.self.items in
    let key = λ (d : Declared). number_of (declared_entry d) in
    let a = c.in_ok-sort_by_key.ensures.sorted key (answers_always _ (λ a r. r ≡ key a.0.now) _ (λ f a r g called. search rules)) in
    let s = c.in_ok-sort_by_key.ensures.stable key (answers_always _ (λ a r. r ≡ key a.0.now) _ (λ f a r g called. search rules)) in
    (map declared_entry found, c.in_ok-fields.ensures, subst (λ b. IsArranged b (map declared_entry found) (map declared_entry sorted)) (sym c.if-options.false) (by_number declared_entry found sorted a s))
