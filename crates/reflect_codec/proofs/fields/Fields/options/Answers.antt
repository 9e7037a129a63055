use Rattle.std.proofs.Common.{◌≡◌, inl, inr, ℤ, Some, refl, subst, rules, to_z, of_z, w32}
use Rattle.std.specs.Prelude.{unsigned_abs}
use Rattle.std.specs.List.{AllZip}
use Rattle.std.proofs.lemmas.Result.{err_from_is_err_and}
use Rattle.reflect_codec.specs.Faults.{OneIf, OneOf, NumberFault, PayloadFault, PartFault, RecordFault, InUninterpretedOption}
use Rattle.reflect_codec.specs.Meaning.{IsOptions, IsUninterpretedOption}
use Rattle.reflect_codec.specs.Raw.{fields_view}
use Rattle.reflect_codec.specs.Reading.{Rejects, ArePayloads, AreJoined, IsBool, IsLastIf, IsRecord, RecordsAt, values_at}
use Rattle.reflect_codec.proofs.Parts.{along_joined, found_fields}
use Rattle.reflect_codec.proofs.Values.{rejects}
use Rattle.reflect_codec.proofs.fields.Fields.options.Goals as goal

pub returns-in_err-fields : goal.returns-in_err-fields
returns-in_err-fields c =
    let bits : to_z w32 (of_z w32 c.args.number) ≡ c.args.number = search rules in
    let p = err_from_is_err_and c.from_residual.result c.from_residual.ensures.1 in
    let fs = fields_view c.args.self.now.list.items in
    rw (p.1, p.2) (rejects (λ o h. (h.0, h.1)) (λ fault. inl fault)
    (subst (λ (z : ℤ). Rejects (AreJoined c.args.self.now.levels 100) (OneOf (PartFault c.args.self.now.levels 100)) (values_at (unsigned_abs z) fs) c.in_err-fields.field-0.0) bits c.in_err-fields.ensures.read))

pub returns-in_err-joined_bytes-in-Some : goal.returns-in_err-joined_bytes-in-Some
returns-in_err-joined_bytes-in-Some c =
    let bits : to_z w32 (of_z w32 c.args.number) ≡ c.args.number = search rules in
    let vs = values_at (unsigned_abs c.args.number) (fields_view c.args.self.now.list.items) in
    let found = found_fields c.args.self.now.levels 100 100 c.args.number _ (fields_view c.args.self.now.list.items) c.in_ok-fields.field-0 c.in-Some.fields bits refl c.in-Some.is
    c.in_ok-fields.ensures.read c.in_ok-fields.ensures.levels in
    let inner = fields_view c.in-Some.fields.list.items in
    let r = c.from_residual-in_err-joined_bytes-in-Some in
    let p = err_from_is_err_and r.result r.ensures.1 in
    let e = c.in_err-joined_bytes-in-Some.field-0.0 in
    rw (p.1, p.2) (rejects (λ o h. let s = along_joined (IsOptions c.args.of vs) c.args.self.now.levels 100 vs inner found.0 o h.0 h.1 h.2 in (s.0.encoded, s.1.encoded)) (λ fault. inl (fault.0, fault.1, fault.2, fault.3, inl (inl fault.4)))
    (subst (λ (z : ℤ). Rejects (λ vs b. ArePayloads vs b.items) (OneOf PayloadFault) (values_at (unsigned_abs z) (fields_view c.args.self.now.list.items)) e) bits c.in_err-joined_bytes-in-Some.ensures))

pub returns-in_err-last_if-in-Some : goal.returns-in_err-last_if-in-Some
returns-in_err-last_if-in-Some c =
    let bits : to_z w32 (of_z w32 c.args.number) ≡ c.args.number = search rules in
    let vs = values_at (unsigned_abs c.args.number) (fields_view c.args.self.now.list.items) in
    let found = found_fields c.args.self.now.levels 100 100 c.args.number _ (fields_view c.args.self.now.list.items) c.in_ok-fields.field-0 c.in-Some.fields bits refl c.in-Some.is
    c.in_ok-fields.ensures.read c.in_ok-fields.ensures.levels in
    let inner = fields_view c.in-Some.fields.list.items in
    let r = c.from_residual-in_err-last_if-in-Some in
    let p = err_from_is_err_and r.result r.ensures.1 in
    let e = c.in_err-last_if-in-Some.field-0.0 in
    rw (p.1, p.2) (rejects (λ o h. let s = along_joined (IsOptions c.args.of vs) c.args.self.now.levels 100 vs inner found.0 o h.0 h.1 h.2 in (s.0.packed, s.1.packed)) (λ fault. inr (inner, found.0, record { why = inl fault }))
    (subst (λ b. Rejects (IsLastIf b IsBool) (OneIf b NumberFault) (values_at 2 inner) e) c.is_field.ensures c.in_err-last_if-in-Some.ensures))

pub returns-in_err-last_if-in-Some-2 : goal.returns-in_err-last_if-in-Some-2
returns-in_err-last_if-in-Some-2 c =
    let bits : to_z w32 (of_z w32 c.args.number) ≡ c.args.number = search rules in
    let vs = values_at (unsigned_abs c.args.number) (fields_view c.args.self.now.list.items) in
    let found = found_fields c.args.self.now.levels 100 100 c.args.number _ (fields_view c.args.self.now.list.items) c.in_ok-fields.field-0 c.in-Some.fields bits refl c.in-Some.is
    c.in_ok-fields.ensures.read c.in_ok-fields.ensures.levels in
    let inner = fields_view c.in-Some.fields.list.items in
    let r = c.from_residual-in_err-last_if-in-Some-2 in
    let p = err_from_is_err_and r.result r.ensures.1 in
    let e = c.in_err-last_if-in-Some-2.field-0.0 in
    rw (p.1, p.2) (rejects (λ o h. let s = along_joined (IsOptions c.args.of vs) c.args.self.now.levels 100 vs inner found.0 o h.0 h.1 h.2 in (s.0.allow_alias, s.1.allow_alias)) (λ fault. inr (inner, found.0, record { why = inr (inl fault) }))
    (subst (λ b. Rejects (IsLastIf b IsBool) (OneIf b NumberFault) (values_at 2 inner) e) c.is_enum.ensures c.in_err-last_if-in-Some-2.ensures))

pub returns-in_err-last_if-in-Some-3 : goal.returns-in_err-last_if-in-Some-3
returns-in_err-last_if-in-Some-3 c =
    let bits : to_z w32 (of_z w32 c.args.number) ≡ c.args.number = search rules in
    let vs = values_at (unsigned_abs c.args.number) (fields_view c.args.self.now.list.items) in
    let found = found_fields c.args.self.now.levels 100 100 c.args.number _ (fields_view c.args.self.now.list.items) c.in_ok-fields.field-0 c.in-Some.fields bits refl c.in-Some.is
    c.in_ok-fields.ensures.read c.in_ok-fields.ensures.levels in
    let inner = fields_view c.in-Some.fields.list.items in
    let r = c.from_residual-in_err-last_if-in-Some-3 in
    let p = err_from_is_err_and r.result r.ensures.1 in
    let e = c.in_err-last_if-in-Some-3.field-0.0 in
    rw (p.1, p.2) (rejects (λ o h. let s = along_joined (IsOptions c.args.of vs) c.args.self.now.levels 100 vs inner found.0 o h.0 h.1 h.2 in (s.0.map_entry, s.1.map_entry)) (λ fault. inr (inner, found.0, record { why = inr (inr (inl fault)) }))
    (subst (λ b. Rejects (IsLastIf b IsBool) (OneIf b NumberFault) (values_at 7 inner) e) c.is_message.ensures c.in_err-last_if-in-Some-3.ensures))

pub returns-in_err-list-in-Some : goal.returns-in_err-list-in-Some
returns-in_err-list-in-Some c =
    let bits : to_z w32 (of_z w32 c.args.number) ≡ c.args.number = search rules in
    let vs = values_at (unsigned_abs c.args.number) (fields_view c.args.self.now.list.items) in
    let found = found_fields c.args.self.now.levels 100 100 c.args.number _ (fields_view c.args.self.now.list.items) c.in_ok-fields.field-0 c.in-Some.fields bits refl c.in-Some.is
    c.in_ok-fields.ensures.read c.in_ok-fields.ensures.levels in
    let inner = fields_view c.in-Some.fields.list.items in
    let r = c.from_residual-in_err-list-in-Some in
    let p = err_from_is_err_and r.result r.ensures.1 in
    let e = c.in_err-list-in-Some.field-0.0 in
    rw (p.1, p.2) (rejects (λ o h. let s = along_joined (IsOptions c.args.of vs) c.args.self.now.levels 100 vs inner found.0 o h.0 h.1 h.2 in (s.0.uninterpreted_option, s.1.uninterpreted_option)) (λ fault. inr (inner, found.0, record { why = inr (inr (inr fault)) }))
    (subst (λ k. Rejects (λ vs ts. AllZip (IsRecord IsUninterpretedOption k) vs ts.items) (OneOf (RecordFault InUninterpretedOption k)) (values_at 999 inner) e) found.1 c.in_err-list-in-Some.ensures))

pub returns-in_ok-list-in-Some : goal.returns-in_ok-list-in-Some
returns-in_ok-list-in-Some c =
    let bits : to_z w32 (of_z w32 c.args.number) ≡ c.args.number = search rules in
    let vs = values_at (unsigned_abs c.args.number) (fields_view c.args.self.now.list.items) in
    let found = found_fields c.args.self.now.levels 100 100 c.args.number _ (fields_view c.args.self.now.list.items) c.in_ok-fields.field-0 c.in-Some.fields bits refl c.in-Some.is
    c.in_ok-fields.ensures.read c.in_ok-fields.ensures.levels in
    let inner = fields_view c.in-Some.fields.list.items in (
      Some inner,
      found.0,
      record {
        encoded = subst (λ (z : ℤ). ArePayloads (values_at (unsigned_abs z) (fields_view c.args.self.now.list.items)) c.in_ok-joined_bytes-in-Some.field-0.items) bits c.in_ok-joined_bytes-in-Some.ensures;
        packed = subst (λ b. IsLastIf b IsBool (values_at 2 inner) c.in_ok-last_if-in-Some.field-0) c.is_field.ensures c.in_ok-last_if-in-Some.ensures;
        allow_alias = subst (λ b. IsLastIf b IsBool (values_at 2 inner) c.in_ok-last_if-in-Some-2.field-0) c.is_enum.ensures c.in_ok-last_if-in-Some-2.ensures;
        map_entry = subst (λ b. IsLastIf b IsBool (values_at 7 inner) c.in_ok-last_if-in-Some-3.field-0) c.is_message.ensures c.in_ok-last_if-in-Some-3.ensures;
        uninterpreted_option = subst (λ k. RecordsAt IsUninterpretedOption k 999 inner c.in_ok-list-in-Some.field-0) found.1 c.in_ok-list-in-Some.ensures;
      },
    )
