use Rattle.std.proofs.Common.{◌≡◌, ◌∷◌, [], true, false, if◌then◌else◌, ap, subst, sym, ◌∙◌, codes}
use Rattle.std.specs.Prelude.{OnOk}
use Rattle.descriptor_records.specs.declared.tag.field.TheConstants as fields
use Rattle.protox_locate.specs.Collected.{meets, state}
use Rattle.protox_locate.specs.Declarations.{body_events}
use Rattle.protox_locate.specs.Located.{Event, Path, part}
use Rattle.protox_locate.specs.declared.slot.Count.{Count}
use Rattle.protox_tree.specs.Places.{value_span}
use Rattle.protox_tree.specs.Tree.{Body, has_name}
use Rattle.protox_tree.specs.View.{body_view}
use Rattle.std.proofs.Common.{Bool, List}
use Rattle.protox_locate.proofs.options.field_option.Goals as goal

abbrev choice : Path → Count → Body → Bool → Bool → List Event
choice path count body is_default is_json =
    if is_default then part path (fields.DEFAULT_VALUE ∷ []) (value_span body.value) ∷ []
    else if is_json then part path (fields.JSON_NAME ∷ []) (value_span body.value) ∷ []
    else body_events path fields.OPTIONS count body

pub returns-then-has_name-clause-located : goal.returns-then-has_name-clause-located
returns-then-has_name-clause-located c =
    let path = c.args.path.now in
    let body = body_view c.args.option.now in
    let test : has_name (codes "default") body.name ≡ true = sym c.has_name.ensures ∙ c.if-has_name.true in
    let events = ap (λ t. choice path c.args.count.now body t (has_name (codes "json_name") body.name)) test ∙ ap (λ s. part path (fields.DEFAULT_VALUE ∷ []) s ∷ []) (sym c.span.ensures) in
    subst (λ es. OnOk c.add.result (state c.add.new.self ≡ meets (state c.args.locator.now) es)) (sym events) c.add.ensures

pub returns-then-has_name-2-clause-located : goal.returns-then-has_name-2-clause-located
returns-then-has_name-2-clause-located c =
    let path = c.args.path.now in
    let body = body_view c.args.option.now in
    let first : has_name (codes "default") body.name ≡ false = sym c.has_name.ensures ∙ c.if-has_name.false in
    let second : has_name (codes "json_name") body.name ≡ true = sym c.has_name-else-has_name.ensures ∙ c.if-has_name-2.true in
    let events =
    ap (λ t. choice path c.args.count.now body t (has_name (codes "json_name") body.name)) first ∙ ap (choice path c.args.count.now body false) second
    ∙ ap (λ s. part path (fields.JSON_NAME ∷ []) s ∷ []) (sym c.span-then-has_name-2.ensures) in
    subst (λ es. OnOk c.add-then-has_name-2.result (state c.add-then-has_name-2.new.self ≡ meets (state c.args.locator.now) es)) (sym events) c.add-then-has_name-2.ensures
