use Rattle.std.proofs.Common.{rules, ◌≡◌, ◌<◌, ◌^◌, ◌∷◌, ◌++◌, length, Option, Some, string_bytes, inl, inr, refl, sym, ap, subst, ◌∙◌}
use Rattle.protobuf_model.specs.Values.{Single, text, blob}
use Rattle.reflect_entries.specs.Entries.{IsAscending}
use Rattle.reflect_message.specs.Declares.{Declares}
use Rattle.reflect_any.specs.Any.{IsAny}
use Rattle.reflect_format.proofs.Faults.{told_memory}
use Rattle.reflect_format.proofs.Stepping.{untouched, unfinished}
use Rattle.reflect_format.proofs.parser.hold.Goals as goal

pub returns-in_default-clause-refused : goal.returns-in_default-clause-refused
returns-in_default-clause-refused c = (c.descriptor.result, search rules, search rules)

pub returns-in_default-clause-stays : goal.returns-in_default-clause-stays
returns-in_default-clause-stays c = inl refl

pub returns-in-Err-Memory-clause-stays : goal.returns-in-Err-Memory-clause-stays
returns-in-Err-Memory-clause-stays c = inl refl

pub returns-in_err-type_url-clause-stays : goal.returns-in_err-type_url-clause-stays
returns-in_err-type_url-clause-stays c = untouched _ c.args.message.now c.from_residual.result

pub returns-in_err-set_field-clause-stays : goal.returns-in_err-set_field-clause-stays
returns-in_err-set_field-clause-stays c =
    let r = c.from_residual-in_err-set_field in
    let url = c.in-Some.fields.type_url in
    unfinished _ c.args.message.now c.set_field.new.self r.result r.ensures.1 (
      subst IsAny c.descriptor.ensures c.in-Some.ensures.any,
      inl (
        url,
        subst (λ d. Declares d url) c.descriptor.ensures c.in-Some.ensures.type_url.0,
        c.in-Some.ensures.type_url.1,
        ((c.in_err-set_field.ensures.err, c.set_field.ensures.extensions, c.set_field.ensures.unknown), c.set_field.ensures.exclusive),
      ),
    )

pub returns-in_err-set_field-2-clause-stays : goal.returns-in_err-set_field-2-clause-stays
returns-in_err-set_field-2-clause-stays c =
    let m = c.args.message.now in
    let r = c.from_residual-in_err-set_field-2 in
    let url = c.in-Some.fields.type_url in
    let value = c.in-Some.fields.value in
    let same = c.descriptor.ensures ∙ sym c.set_field.ensures.type_stays in
    let named : string_bytes c.in_ok-type_url.type_url ≡ string_bytes c.args.name.now.domain ++ 47 ∷ string_bytes c.args.name.now.message = search rules in
    unfinished _ m c.set_field-2.new.self r.result r.ensures.1 (
      subst IsAny c.descriptor.ensures c.in-Some.ensures.any,
      inr (
        c.set_field.new.self,
        c.set_field.ensures.type_stays,
        (url, _, subst (λ d. Declares d url) c.descriptor.ensures c.in-Some.ensures.type_url.0, c.in-Some.ensures.type_url.1, ap (λ t. let it : Option Single = Some (text t) in it) named, c.in_ok-set_field.ensures.ok, c.set_field.ensures.exclusive, λ up. (c.in_ok-set_field.ensures.ascending, subst IsAscending (sym c.set_field.ensures.extensions) up.1)),
        (value, subst (λ d. Declares d value) same c.in-Some.ensures.value.0, c.in-Some.ensures.value.1, ((c.in_err-set_field-2.ensures.err, c.set_field-2.ensures.extensions, c.set_field-2.ensures.unknown), c.set_field-2.ensures.exclusive)),
      ),
    )

pub returns-clause-held : goal.returns-clause-held
returns-clause-held c =
    let m = c.args.message.now in
    let mid = c.set_field.new.self in
    let url = c.in-Some.fields.type_url in
    let value = c.in-Some.fields.value in
    let same = c.descriptor.ensures ∙ sym c.set_field.ensures.type_stays in
    let short : length c.in-Ok.bytes.items < 2 ^ 64 = search rules in
    let named : string_bytes c.in_ok-type_url.type_url ≡ string_bytes c.args.name.now.domain ++ 47 ∷ string_bytes c.args.name.now.message = search rules in (
      subst IsAny c.descriptor.ensures c.in-Some.ensures.any,
      mid,
      (url, _, subst (λ d. Declares d url) c.descriptor.ensures c.in-Some.ensures.type_url.0, c.in-Some.ensures.type_url.1, ap (λ t. let it : Option Single = Some (text t) in it) named, c.in_ok-set_field.ensures.ok, c.set_field.ensures.exclusive, λ up. (c.in_ok-set_field.ensures.ascending, subst IsAscending (sym c.set_field.ensures.extensions) up.1)),
      (value, _, subst (λ d. Declares d value) same c.in-Some.ensures.value.0, c.in-Some.ensures.value.1, ap (λ b. let it : Option Single = Some (blob b) in it) c.in-Ok.ensures.ok, c.in_ok-set_field-2.ensures.ok, c.set_field-2.ensures.exclusive, λ up. (c.in_ok-set_field-2.ensures.ascending, subst IsAscending (sym c.set_field-2.ensures.extensions) up.1)),
      c.set_field.ensures.type_stays,
      subst (λ l. length l < 2 ^ 64) c.in-Ok.ensures.ok short,
    )

pub returns-in_default-clause-told : goal.returns-in_default-clause-told
returns-in_default-clause-told c =
    let none : IsAny c.args.message.now.descriptor → ⊥ = search rules in
    (none, refl)

pub returns-in_err-type_url-clause-told : goal.returns-in_err-type_url-clause-told
returns-in_err-type_url-clause-told c = told_memory _ c.from_residual.result c.from_residual.ensures.1

pub returns-in_err-set_field-clause-told : goal.returns-in_err-set_field-clause-told
returns-in_err-set_field-clause-told c =
    told_memory _ c.from_residual-in_err-set_field.result c.from_residual-in_err-set_field.ensures.1

pub returns-in_err-set_field-2-clause-told : goal.returns-in_err-set_field-2-clause-told
returns-in_err-set_field-2-clause-told c =
    told_memory _ c.from_residual-in_err-set_field-2.result c.from_residual-in_err-set_field-2.ensures.1
