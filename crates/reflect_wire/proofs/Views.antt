-- What is seen of a set and of a value, one level at a time.
use Rattle.std.proofs.Common.{◌≡◌, ℕ, List, [], ◌∷◌, ◌++◌, map, refl, sym, ap, ◌∙◌, Vec, Global}
use Rattle.std.specs.List.{flat_map}
use Rattle.reflect_wire.specs.Encoding.{field_bytes, records_bytes}
use Rattle.reflect_wire.specs.Records.{Payload, Records, no_records}
use Rattle.reflect_wire.specs.Views.{records_of, payload_step, field_step, set_step, field_view, records_view, set_view, fields_of}
use Rattle.reflect_wire.specs.declared.unknown.UnknownField.{UnknownField}
use Rattle.reflect_wire.specs.declared.unknown.UnknownFieldSet.{UnknownFieldSet}
use Rattle.reflect_wire.specs.declared.unknown.UnknownFieldValue.TheFolds.{fold-UnknownField, fold-roll-UnknownFieldSet, fold_out-UnknownField, fold_out-UnknownFieldSet}
use Rattle.reflect_wire.specs.declared.unknown.UnknownFieldValue.TheViews.{roll-UnknownFieldSet}
use denote.Hole.Carrier.{roll}

field_view-folds : (f : UnknownField) → fold-UnknownField Payload (ℕ × Payload) Records payload_step field_step set_step f ≡ field_view f
field_view-folds f = fold_out-UnknownField Payload (ℕ × Payload) Records payload_step field_step set_step f

field_views-fold : (fs : List UnknownField) → map (fold-UnknownField Payload (ℕ × Payload) Records payload_step field_step set_step) fs ≡ map field_view fs
field_views-fold [] = refl
field_views-fold (f ∷ fs) = let one = field_view-folds f in let all = field_views-fold fs in cc

pub set_view-out : (s : UnknownFieldSet) → set_view s ≡ records_view (fields_of s)
set_view-out s = fold_out-UnknownFieldSet Payload (ℕ × Payload) Records payload_step field_step set_step s ∙ ap records_of (field_views-fold (fields_of s))

pub set_view-roll : (v : Vec UnknownField Global) → set_view (roll-UnknownFieldSet (record { fields = v })) ≡ records_view v.items
set_view-roll v = fold-roll-UnknownFieldSet Payload (ℕ × Payload) Records payload_step field_step set_step (record { fields = v }) ∙ ap records_of (field_views-fold v.items)

-- records are written one after another
pub records_bytes_all : (fs : List UnknownField) → records_bytes (records_view fs) ≡ flat_map (λ f. field_bytes (field_view f)) fs
records_bytes_all [] = refl
records_bytes_all (f ∷ fs) = ap (λ bs. field_bytes (field_view f) ++ bs) (records_bytes_all fs)

pub set_bytes : (s : UnknownFieldSet) → records_bytes (set_view s) ≡ flat_map (λ f. field_bytes (field_view f)) (fields_of s)
set_bytes s = ap records_bytes (set_view-out s) ∙ records_bytes_all (fields_of s)

no_fields : (fs : List UnknownField) → records_view fs ≡ no_records → fs ≡ []
no_fields [] e = refl
no_fields (f ∷ fs) e = absurd (cc)

pub no_fields_in : (s : UnknownFieldSet) → set_view s ≡ no_records → fields_of s ≡ []
no_fields_in s e = no_fields (fields_of s) (sym (set_view-out s) ∙ e)

pub no_records_in : (s : UnknownFieldSet) → fields_of s ≡ [] → set_view s ≡ no_records
no_records_in s e = set_view-out s ∙ ap records_view e
