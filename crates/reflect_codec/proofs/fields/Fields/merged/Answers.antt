use Rattle.std.proofs.Common.{◌≡◌, inl, inr, ◌-◌, ℤ, Some, subst, rules, to_z, of_z, w32}
use Rattle.std.specs.Prelude.{unsigned_abs}
use Rattle.std.proofs.lemmas.Result.{err_from_is_err_and}
use Rattle.reflect_codec.specs.Faults.{OneOf, PartFault}
use Rattle.reflect_codec.specs.Raw.{fields_view}
use Rattle.reflect_codec.specs.Reading.{Rejects, AreJoined, values_at}
use Rattle.reflect_codec.proofs.Parts.{along_joined, found_fields}
use Rattle.reflect_codec.proofs.Values.{rejects}
use Rattle.reflect_codec.proofs.fields.Fields.merged.Goals as goal

pub returns-in_err-fields : goal.returns-in_err-fields
returns-in_err-fields g c =
    let bits : to_z w32 (of_z w32 c.args.number) ≡ c.args.number = search rules in
    let p = err_from_is_err_and c.from_residual.result c.from_residual.ensures.1 in
    let levels = c.args.self.now.levels in
    let fs = fields_view c.args.self.now.list.items in
    let e = c.in_err-fields.field-0.0 in
    rw (p.1, p.2) (rejects (λ o h. (h.0, h.1)) (λ fault. inl fault) (subst (λ k. Rejects (AreJoined levels k) (OneOf (PartFault levels k)) (values_at (unsigned_abs c.args.number) fs) e) c.saturating_sub.ensures
    (subst (λ (z : ℤ). Rejects (AreJoined levels c.saturating_sub.result) (OneOf (PartFault levels c.saturating_sub.result)) (values_at (unsigned_abs z) fs) e) bits c.in_err-fields.ensures.read)))

pub returns-in_err-from_fields-in-Some : goal.returns-in_err-from_fields-in-Some
returns-in_err-from_fields-in-Some g c =
    let bits : to_z w32 (of_z w32 c.args.number) ≡ c.args.number = search rules in
    let r = c.from_residual-in_err-from_fields-in-Some in
    let p = err_from_is_err_and r.result r.ensures.1 in
    let levels = c.args.self.now.levels in
    let found = found_fields levels (levels - 1) c.saturating_sub.result c.args.number _ (fields_view c.args.self.now.list.items) c.in_ok-fields.field-0 c.in-Some.fields bits c.saturating_sub.ensures c.in-Some.is
    c.in_ok-fields.ensures.read c.in_ok-fields.ensures.levels in
    let inner = fields_view c.in-Some.fields.list.items in
    rw (p.1, p.2) (rejects (λ o h. along_joined (g.R.ReadRecord.facts (levels - 1)) levels (levels - 1) (values_at (unsigned_abs c.args.number) (fields_view c.args.self.now.list.items)) inner found.0 o h.0 h.1 h.2) (λ fault. inr (inner, found.0, fault))
    (subst (λ k. Rejects (g.R.ReadRecord.facts k) (g.R.ReadRecord.faults k) inner c.in_err-from_fields-in-Some.field-0.0) found.1 c.in_err-from_fields-in-Some.ensures))

pub returns-in_ok-from_fields-in-Some : goal.returns-in_ok-from_fields-in-Some
returns-in_ok-from_fields-in-Some g c =
    let bits : to_z w32 (of_z w32 c.args.number) ≡ c.args.number = search rules in
    let levels = c.args.self.now.levels in
    let found = found_fields levels (levels - 1) c.saturating_sub.result c.args.number _ (fields_view c.args.self.now.list.items) c.in_ok-fields.field-0 c.in-Some.fields bits c.saturating_sub.ensures c.in-Some.is
    c.in_ok-fields.ensures.read c.in_ok-fields.ensures.levels in
    let inner = fields_view c.in-Some.fields.list.items in
    (Some inner, found.0, subst (λ k. g.R.ReadRecord.facts k inner c.in_ok-from_fields-in-Some.field-0) found.1 c.in_ok-from_fields-in-Some.ensures)
