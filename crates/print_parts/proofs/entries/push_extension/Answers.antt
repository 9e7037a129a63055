use Rattle.std.proofs.Common.{rules, ◌≡◌, ◌++◌, ◌∷◌, [], List, map, option_map, sym, ap, ◌∙◌}
use Rattle.std.proofs.lemmas.List.{append-nil, map_push}
use Rattle.reflect_tables.specs.Types.{FieldType}
use Rattle.reflect_scalar.specs.FieldTypes.{extension_pool, extension_type}
use Rattle.reflect_scalar.specs.Floats.{HoldsFloats}
use Rattle.reflect_message.proofs.Known.{dropped, kept}
use Rattle.print_parts.specs.Entries.{Entry, extension, option_list}
use Rattle.print_parts.specs.Parts.{other_entry}
use Rattle.print_parts.specs.declared.entries.Other.TheVariants.{Extension}
use Rattle.print_parts.proofs.entries.push_extension.Goals as goal

pub returns-in_ok-push : goal.returns-in_ok-push
returns-in_ok-push c =
    let x = c.args.extension in
    let v = c.args.value.now in
    let old : List Entry = map other_entry c.args.others.now.items in
    let none : HoldsFloats (extension_pool x) (extension_type x) → ⊥ = search rules in
    let put : map other_entry c.push.new.self.items ≡ old ++ extension (extension_pool x) (extension_type x) v ∷ [] =
    ap (map other_entry) c.in_ok-push.ensures.items ∙ map_push other_entry c.args.others.now.items (Extension x c.args.value) in
    put ∙ ap (λ o. old ++ option_list (option_map (λ (f : FieldType). extension (extension_pool x) f v) o)) (sym (kept (extension_pool x) (extension_type x) none))

pub returns-else-not-holds_floats : goal.returns-else-not-holds_floats
returns-else-not-holds_floats c =
    let x = c.args.extension in
    let v = c.args.value.now in
    let old : List Entry = map other_entry c.args.others.now.items in
    let floats : HoldsFloats (extension_pool x) (extension_type x) = search rules in
    sym (append-nil old) ∙ ap (λ o. old ++ option_list (option_map (λ (f : FieldType). extension (extension_pool x) f v) o)) (sym (dropped (extension_pool x) (extension_type x) floats))
