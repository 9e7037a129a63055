-- Options are refused at one place: of two pools that say the same to texts both refuse the same one of a record's options,
-- or both none of them.
use Rattle.std.proofs.Common.{◌≡◌, ◌<◌, ◌⊎◌, inl, inr, ℕ, zero, suc, true, List, [], ◌∷◌, Option, None, Some, slice_get, take, refl, sym, ap, ◌∙◌, subst, arith}
use Rattle.std.proofs.lemmas.Bool.{cases_order}
use Rattle.std.proofs.lemmas.List.{take-take}
use Rattle.descriptor_records.specs.Content.{option_view}
use Rattle.descriptor_records.specs.declared.options.Options.{Options}
use Rattle.descriptor_records.specs.declared.options.UninterpretedOption.{UninterpretedOption}
use Rattle.message_view.specs.Shaped.{Exclusive}
use Rattle.option_parts.specs.OptionTypes.{CanRead, type_name}
use Rattle.option_parts.specs.declared.option_error.OptionErrorKind.{OptionErrorKind}
use Rattle.option_parts.specs.declared.option_error.OptionErrorKind.TheVariants as kinds
use Rattle.option_parts.specs.declared.option_scope.OptionScope.{OptionScope}
use Rattle.option_setter.specs.WrittenNames.{TellsOption}
use Rattle.option_setter.specs.declared.option_setter.NameScope.{NameScope}
use Rattle.reflect_message.specs.Names.{DynamicMessage}
use Rattle.reflect_options.specs.Settled.{FindsForbidden, IsForbiddenAt, IsType, RefusesAt, RefusesOptions, RefusesTyped, SetsAll, is_forbidden}
use Rattle.reflect_pool.specs.declared.message.MessageDescriptor.{MessageDescriptor}
use Rattle.reflect_tables.proofs.Firsts.{one_first}
use Rattle.stored_options.proofs.EachStep.{above}
use Rattle.stored_options.proofs.Excluded.{not_set_at}
use Rattle.stored_options.proofs.OneTarget.{NameAlike}
use Rattle.stored_options.proofs.RefusedOptions.{forbidden_none, found_there, no_such_type, refuses_stored, stored_shape, stored_twins}
use Rattle.stored_options.proofs.SetTwice.{AreTwins}
use Rattle.stored_options.proofs.TwinPools.{AreTwinPools, twins_back}
use Rattle.stored_options.specs.ToldAlike.{forbidden, sort_of}

-- ---- where names of options of one record are looked up, in both pools

pub record TwinScopes (scope : OptionScope) (s t : NameScope) : Type 0 where
  pub alike : NameAlike s t
  pub back : NameAlike t s
  pub twins : AreTwinPools s.pool.now t.pool.now
  pub can : CanRead s.pool.now scope
  pub can_too : CanRead t.pool.now scope

pub turned : (scope : OptionScope) (s t : NameScope) → TwinScopes scope s t → TwinScopes scope t s
turned scope s t w = record {
  alike = w.back;
  back = w.alike;
  twins = twins_back s.pool.now t.pool.now w.twins;
  can = w.can_too;
  can_too = w.can;
}

-- ---- one of several options

got_front : {X : Type 0} (xs : List X) (n k : ℕ) → k < n → slice_get (take n xs) k ≡ slice_get xs k
got_front xs zero k less = absurd (omega (arith, less))
got_front [] (suc n) k less = refl
got_front (x ∷ xs) (suc n) zero less = refl
got_front (x ∷ xs) (suc n) (suc k) less = got_front xs n k (omega (arith, less))

-- one that is refused in front of a place is refused among those in front of it
in_front : (s : NameScope) (os : List UninterpretedOption) (m : DynamicMessage) (place n : ℕ) (e : OptionErrorKind) → place < n → RefusesAt s os m place e → RefusesAt s (take n os) m place e
in_front s os m place n e less (x, front, paths, there, before, refuses, tells) = (
  x,
  front,
  paths,
  got_front os n place less ∙ there,
  subst (λ ps. SetsAll s ps m front paths) (sym (take-take place n os (omega (arith, less)))) before,
  refuses,
  tells,
)

-- of options that are refused at two places, in messages that are seen alike, the first is not in front of the second
not_before : (s t : NameScope) → NameAlike s t → (os : List UninterpretedOption) (place on : ℕ) (a b : DynamicMessage) (e f : OptionErrorKind) → place < on → AreTwins a b
    → Exclusive (suc (suc (above 100))) a → Exclusive (suc (suc (above 100))) b → RefusesAt s os a place e → RefusesAt t os b on f → ⊥
not_before s t alike os place on a b e f less twins one two refuses (y, front, ways, there, before, also, tells) =
    not_set_at s t alike (take on os) place a b front ways e twins one two (in_front s os a place on e less refuses) before

-- ---- by their type

module _ (scope : OptionScope) (o : Options) where
  -- where one is refused the others are not, nor is what they come to
  not_none : (s t : NameScope) → TwinScopes scope s t → (d e : MessageDescriptor) → IsType scope s d → IsType scope t e → (place : ℕ) (k l : OptionErrorKind)
      → RefusesTyped scope s d o None k → RefusesTyped scope t e o (Some place) l → ⊥
  not_none s t w d e its also place k l (inl why) (stored, is, refuses) =
      refuses_stored scope s t w.alike w.twins w.can w.can_too o d e its also stored is scope refl k why
  not_none s t w d e its also place k l (inr (whole, paths, a, why)) (stored, is, refuses) =
      not_set_at t s w.back o.uninterpreted_option.items place stored a.0 a.1 paths l
      (stored_twins scope t s w.back (twins_back s.pool.now t.pool.now w.twins) w.can_too w.can o e d also its stored a.0 is a.2)
      (stored_shape scope t w.twins.also w.can_too o e also stored is) (stored_shape scope s w.twins.sound w.can o d its a.0 a.2) refuses a.3

  not_earlier : (s t : NameScope) → TwinScopes scope s t → (d e : MessageDescriptor) → IsType scope s d → IsType scope t e → (place on : ℕ) (k l : OptionErrorKind) → place < on
      → RefusesTyped scope s d o (Some place) k → RefusesTyped scope t e o (Some on) l → ⊥
  not_earlier s t w d e its also place on k l less (stored, is, refuses) (held, spelled, refused) =
      not_before s t w.alike o.uninterpreted_option.items place on stored held k l less
      (stored_twins scope s t w.alike w.twins w.can w.can_too o d e its also stored held is spelled)
      (stored_shape scope s w.twins.sound w.can o d its stored is) (stored_shape scope t w.twins.also w.can_too o e also held spelled) refuses refused

  typed_at : (s t : NameScope) → TwinScopes scope s t → (d e : MessageDescriptor) → IsType scope s d → IsType scope t e → (at on : Option ℕ) (k l : OptionErrorKind)
      → RefusesTyped scope s d o at k → RefusesTyped scope t e o on l → at ≡ on
  typed_at s t w d e its also None None k l refuses refused = refl
  typed_at s t w d e its also None (Some on) k l refuses refused = absurd (not_none s t w d e its also on k l refuses refused)
  typed_at s t w d e its also (Some place) None k l refuses refused = absurd (not_none t s (turned scope s t w) e d also its place l k refused refuses)
  typed_at s t w d e its also (Some place) (Some on) k l refuses refused = by (cases_order place on) where
    by : (place ≡ on) ⊎ ((place < on) ⊎ (on < place)) → Some place ≡ Some on
    by (inl same) = ap Some same
    by (inr (inl less)) = absurd (not_earlier s t w d e its also place on k l less refuses refused)
    by (inr (inr more)) = absurd (not_earlier t s (turned scope s t w) e d also its on place l k more refused refuses)

  -- ---- those that no source may set

  -- the first of them is told
  pub record IsFirstForbidden (at : Option ℕ) (k : OptionErrorKind) : Type 0 where
    pub place : ℕ
    pub is : at ≡ Some place
    pub first : FindsForbidden scope o (Some place)
    pub option : UninterpretedOption
    pub there : slice_get o.uninterpreted_option.items place ≡ Some option
    pub sort : sort_of k ≡ forbidden
    pub tells : TellsOption (option_view option) k

  pub first_forbidden : (at : Option ℕ) (k : OptionErrorKind) → IsForbiddenAt scope o at k → IsFirstForbidden at k
  first_forbidden (Some place) (kinds.ForbiddenOption name) (first, (x, there, tells)) =
      record { place = place; is = refl; first = first; option = x; there = there; sort = refl; tells = tells }
  first_forbidden at k h = absurd h

  forbidden_at : (at on : Option ℕ) (k l : OptionErrorKind) → IsForbiddenAt scope o at k → IsForbiddenAt scope o on l → at ≡ on
  forbidden_at at on k l h j =
      let a = first_forbidden at k h in
      let b = first_forbidden on l j in
      let same : a.place ≡ b.place =
      one_first (λ (x : UninterpretedOption). is_forbidden scope (option_view x).name ≡ true) o.uninterpreted_option.items a.option a.place b.place a.first b.first in
      a.is ∙ ap Some same ∙ sym b.is

  -- ---- in any way

  pub refused_at : (s t : NameScope) → TwinScopes scope s t → (at on : Option ℕ) (k l : OptionErrorKind) → RefusesOptions scope s o at k → RefusesOptions scope t o on l → at ≡ on
  refused_at s t w at on k l (inl h) (inl j) = forbidden_at at on k l h j
  refused_at s t w at on k l (inl h) (inr (finds, j)) = absurd (forbidden_none scope s t w.alike w.twins w.can w.can_too o at k h finds)
  refused_at s t w at on k l (inr (finds, h)) (inl j) = absurd (forbidden_none scope s t w.alike w.twins w.can w.can_too o on l j finds)
  refused_at s t w at on k l (inr (finds, inl h)) (inr (found, inl j)) = h.2 ∙ sym j.2
  refused_at s t w at on k l (inr (finds, inl h)) (inr (found, inr (e, also, j))) =
      absurd (no_such_type t.pool.now (type_name scope) e (found_there s.pool.now t.pool.now w.twins.messages scope None h.0) also.1)
  refused_at s t w at on k l (inr (finds, inr (d, its, h))) (inr (found, inl j)) =
      absurd (no_such_type s.pool.now (type_name scope) d (found_there t.pool.now s.pool.now (sym w.twins.messages) scope None j.0) its.1)
  refused_at s t w at on k l (inr (finds, inr (d, its, h))) (inr (found, inr (e, also, j))) = typed_at s t w d e its also at on k l h j
