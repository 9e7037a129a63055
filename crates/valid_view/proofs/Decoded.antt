-- Messages that are decoded, and those into which bytes are merged, suit their types, and are tidy, at each depth.
use Rattle.std.proofs.Common.{◌≡◌, ◌≤◌, inr, ℕ, suc, true, List, ap, ◌∙◌, refl, subst, sym, arith}
use Rattle.reflect_wire.specs.Records.{Payload, SpellsRecords}
use Rattle.reflect_wire.specs.Views.{records_of}
use Rattle.reflect_pool.specs.declared.message.MessageDescriptor.{MessageDescriptor}
use Rattle.reflect_tables.specs.Types.{PoolType}
use Rattle.reflect_message.specs.Contents.{content_of, nothing}
use Rattle.reflect_message.specs.Held.{choices_of, fields_of}
use Rattle.reflect_message.specs.Names.{DynamicMessage}
use Rattle.reflect_message.specs.Oneofs.{AreChosen, IsExclusive}
use Rattle.reflect_copies.proofs.Copying.{chosen_copied}
use Rattle.reflect_decode.specs.Levels.{TakesAt}
use Rattle.reflect_decode.specs.Spelled.{IsMerged, IsSpelled}
use Rattle.reflect_numbered.specs.Fits.{suits_type}
use Rattle.reflect_numbered.specs.declared.validity.Strictness.TheVariants.{Types}
use Rattle.message_view.specs.Sound.{IsSound}
use Rattle.valid_view.specs.Tidy.{Tidy}
use Rattle.valid_view.proofs.Behind.{LeftBehind, below_all, left_behind, level_sits}
use Rattle.valid_view.proofs.Copied.{copies_both, copy_sits}
use Rattle.valid_view.proofs.Sitting.{Both, Sits, both_sits, nothing_sits, sits_both, sits_tidy, sits_typed}

-- ---- where nothing stood
pub spelled_alone : (d : MessageDescriptor) (bytes : List ℕ) (m : DynamicMessage) → IsSpelled d bytes m → (rs : List (ℕ × Payload)) × SpellsRecords 100 bytes (records_of rs) × LeftBehind (TakesAt 100) d nothing (content_of m) rs
spelled_alone d bytes m (rs, spelled, kept, some, also, fields, (extensions, apart), accepts, ordered) = (
  rs,
  spelled,
  record {
    fields = fields;
    extensions = extensions;
    apart = apart;
    unowned = λ n none unset. some n (inr none);
    unextended = λ n none. also n (inr none);
    unknown = kept;
    ordered = ordered;
  },
)

module _ (d : MessageDescriptor) (sound : IsSound d.pool.now) (bytes : List ℕ) (m : DynamicMessage) (type : m.descriptor ≡ d) where
  spelled_sits : IsSpelled d bytes m → Sits (Both d.pool.now 100) m.descriptor (content_of m)
  spelled_sits spelled =
      let left = spelled_alone d bytes m spelled in
      subst (λ (e : MessageDescriptor). Sits (Both d.pool.now 100) e (content_of m)) (sym type)
      (level_sits d.pool.now sound 100 100 (below_all d.pool.now sound 100 100 (omega arith)) d refl nothing (content_of m) left.0 left.2 (nothing_sits (Both d.pool.now 100) d))

  pub decoded_typed : IsSpelled d bytes m → suits_type Types m ≡ true
  decoded_typed spelled = sits_typed (Both d.pool.now 100) m (spelled_sits spelled) (λ n h. h.0)

  pub decoded_tidy : IsExclusive m → IsSpelled d bytes m → Tidy d.pool.now 101 m
  decoded_tidy sole spelled = sits_tidy (Both d.pool.now 100) m (spelled_sits spelled) d.pool.now 100 (ap (λ (d : MessageDescriptor). d.pool.now) type) sole (λ n h. h.1)

-- ---- behind what a message held
module _ (pool : PoolType) (sound : IsSound pool) (levels : ℕ) (enough : 100 ≤ levels) (old new : DynamicMessage) (type : new.descriptor ≡ old.descriptor) (bytes : List ℕ) (merged : IsMerged old.descriptor bytes old new) where
  pub merged_both : suits_type Types old ≡ true → Tidy pool (suc levels) old → Both pool (suc levels) new
  merged_both typed tidy = by merged where
    both : Both pool (suc levels) old
    both = (typed, tidy)

    by : IsMerged old.descriptor bytes old new → Both pool (suc levels) new
    by (rs, copy, spelled, copied, sorted, merges, accepts) =
        let d = old.descriptor in
        let its = copy_sits (Both pool levels) (copies_both pool levels) d (content_of old) copy copied sorted (both_sits pool levels old both) in
        let chosen = chosen_copied d (choices_of old) copy.choices (fields_of old) copy.fields copied.choices copied.fields both.1.0.exclusive in
        let left = left_behind (TakesAt 100) d copy (content_of new) rs its.ordered chosen merges in
        let sits = level_sits pool sound 100 levels (below_all pool sound 100 levels enough) d both.1.0.pooled copy (content_of new) rs left.0 its in
        sits_both pool levels new (ap (λ (d : MessageDescriptor). d.pool.now) type ∙ both.1.0.pooled)
        (subst (λ (d : MessageDescriptor). AreChosen d (choices_of new) (fields_of new)) (sym type) left.1)
        (subst (λ (d : MessageDescriptor). Sits (Both pool levels) d (content_of new)) (sym type) sits)
