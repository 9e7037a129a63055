-- Values and messages that are firm: what they hold is whole, at each depth, their messages are of the pool's types and exclusive, and their other records fit.
use Rattle.std.proofs.Common.{◌≡◌, ℕ, zero, suc, List, [], ◌∷◌, Option, None, Some, unwrap_or, refl, sym, ap, ◌∙◌, subst}
use Rattle.std.specs.List.{AllByRecursion}
use Rattle.protobuf_model.specs.Meaning.{payloads}
use Rattle.protobuf_model.proofs.Lists.{all_map}
use Rattle.reflect_wire.specs.Written.{FitsPayload}
use Rattle.reflect_tables.specs.Types.{PoolType}
use Rattle.reflect_pool.specs.declared.message.MessageDescriptor.{MessageDescriptor}
use Rattle.reflect_entries.specs.Entries.{value_at}
use Rattle.reflect_scalar.specs.Keys.{key_view}
use Rattle.reflect_scalar.specs.Singles.{Single}
use Rattle.reflect_scalar.specs.Written.{Fits}
use Rattle.reflect_scalar.specs.declared.map_key.MapKey.{MapKey}
use Rattle.reflect_decode.specs.Ordered.{IsOrdered}
use Rattle.reflect_message.specs.Contents.{Content, content_of, nothing}
use Rattle.reflect_message.specs.Lists.{items_held, list_items}
use Rattle.reflect_message.specs.Maps.{entries_held, map_entries}
use Rattle.reflect_message.specs.Messages.{message_in}
use Rattle.reflect_message.specs.Names.{DynamicMessage, Value}
use Rattle.reflect_message.specs.Oneofs.{IsExclusive}
use Rattle.reflect_message.specs.Singles as singles
use Rattle.message_view.proofs.Changed.{empty_shaped}
use Rattle.message_view.proofs.Seen.{list_seen, map_seen, message_seen, single_seen}
use Rattle.valid_view.specs.Inside.{AreAscending, EachMessage, IfMessage, IfSingle, IsWhole}
use Rattle.valid_view.specs.Tidy.{Solid, Tidy}
use Rattle.valid_view.proofs.Bits.{IsSuited, suited_fits, value_short}
use Rattle.valid_view.proofs.Deepening.{each_weaker}
use Rattle.valid_view.proofs.KeyOrder.{none_ascend}
use Rattle.valid_view.proofs.Typed.{both_each}

pub both_all : {X : Type 0} (P Q : X → Type 0) (xs : List X) → AllByRecursion P xs → AllByRecursion Q xs → AllByRecursion (λ x. P x × Q x) xs
both_all P Q [] p q = tt
both_all P Q (x ∷ xs) p q = ((p.0, q.0), both_all P Q xs p.1 q.1)

-- ---- values, of whose messages Q holds

-- a single value that fits, or a message of which Q holds
pub data IsOne (Q : DynamicMessage → Type 0) (v : Value) : Type 0 where
  a_single : (w : Single) → singles.single v ≡ Some w → Fits w → IsOne Q v
  a_message : (m : DynamicMessage) → message_in v ≡ Some m → Q m → IsOne Q v

module _ (Q : DynamicMessage → Type 0) where
  -- as one value, and as an entry
  abbrev pub FirmOne : Value → Type 0
  FirmOne v = IfSingle Fits v × IfMessage Q v

  abbrev pub FirmEntry : MapKey × Value → Type 0
  FirmEntry e = Fits (key_view e.0) × FirmOne e.1

  -- itself, and each in its list or in its map
  abbrev pub FirmIn : Value → Type 0
  FirmIn v = IsWhole v × EachMessage Q v

  pub firm_by : (v : Value) → FirmOne v → ((vs : List Value) → list_items v ≡ Some vs → AllByRecursion FirmOne vs)
      → ((es : List (MapKey × Value)) → map_entries v ≡ Some es → AllByRecursion FirmEntry es × AreAscending es) → FirmIn v
  firm_by v one items entries = (
    record {
      values = record {
        itself = one.0;
        items = λ vs at. all_map FirmOne (IfSingle Fits) vs (λ w firm. firm.0) (items vs at);
        entries = λ es at. all_map FirmEntry (λ (e : MapKey × Value). IfSingle Fits e.1) es (λ e firm. firm.1.0) (entries es at).0;
      };
      keys = λ es at. all_map FirmEntry (λ (e : MapKey × Value). Fits (key_view e.0)) es (λ e firm. firm.0) (entries es at).0;
      ascending = λ es at. (entries es at).1;
    },
    record {
      itself = one.1;
      items = λ vs at. all_map FirmOne (IfMessage Q) vs (λ w firm. firm.1) (items vs at);
      entries = λ es at. all_map FirmEntry (λ (e : MapKey × Value). IfMessage Q e.1) es (λ e firm. firm.1.1) (entries es at).0;
    },
  )

  pub firm_one : (v : Value) → FirmIn v → FirmOne v
  firm_one v firm = (firm.0.values.itself, firm.1.itself)

  pub firm_items : (v : Value) (vs : List Value) → list_items v ≡ Some vs → FirmIn v → AllByRecursion FirmOne vs
  firm_items v vs at firm = both_all (IfSingle Fits) (IfMessage Q) vs (firm.0.values.items vs at) (firm.1.items vs at)

  pub firm_entries : (v : Value) (es : List (MapKey × Value)) → map_entries v ≡ Some es → FirmIn v → AllByRecursion FirmEntry es
  firm_entries v es at firm =
      both_all (λ (e : MapKey × Value). Fits (key_view e.0)) (λ (e : MapKey × Value). FirmOne e.1) es (firm.0.keys es at)
      (both_all (λ (e : MapKey × Value). IfSingle Fits e.1) (λ (e : MapKey × Value). IfMessage Q e.1) es (firm.0.values.entries es at) (firm.1.entries es at))

  pub suited_one : (v : Value) (w : Single) → singles.single v ≡ Some w → IsSuited w → IsOne Q v
  suited_one v w at suited = a_single w at (suited_fits suited.0 w suited.1 (value_short v w at))

  pub one_is : (v : Value) → IsOne Q v → FirmOne v
  one_is v (a_single w at fits) = (
    λ u other. subst Fits (ap (λ o. unwrap_or o u) (sym at ∙ other)) fits,
    λ m other. absurd (cc (sym (single_seen v w at) ∙ message_seen v m other)),
  )
  one_is v (a_message m at q) = (
    λ w other. absurd (cc (sym (message_seen v m at) ∙ single_seen v w other)),
    λ n other. subst Q (ap (λ o. unwrap_or o n) (sym at ∙ other)) q,
  )

  pub one_in : (v : Value) → IsOne Q v → FirmIn v
  one_in v one = firm_by v (one_is v one) (λ vs at. absurd (no_list one vs at)) (λ es at. absurd (no_map one es at)) where
    no_list : IsOne Q v → (vs : List Value) → list_items v ≡ Some vs → ⊥
    no_list (a_single w at fits) vs other = cc (sym (single_seen v w at) ∙ list_seen v vs other)
    no_list (a_message m at q) vs other = cc (sym (message_seen v m at) ∙ list_seen v vs other)

    no_map : IsOne Q v → (es : List (MapKey × Value)) → map_entries v ≡ Some es → ⊥
    no_map (a_single w at fits) es other = cc (sym (single_seen v w at) ∙ map_seen v es other)
    no_map (a_message m at q) es other = cc (sym (message_seen v m at) ∙ map_seen v es other)

  pub list_in : (v : Value) (vs : List Value) → list_items v ≡ Some vs → AllByRecursion FirmOne vs → FirmIn v
  list_in v vs at all =
      let neither : FirmOne v = (λ w other. absurd (cc (sym (list_seen v vs at) ∙ single_seen v w other)), λ m other. absurd (cc (sym (list_seen v vs at) ∙ message_seen v m other))) in
      firm_by v neither
      (λ us other. subst (AllByRecursion FirmOne) (ap (λ o. unwrap_or o us) (sym at ∙ other)) all)
      (λ es other. absurd (cc (sym (list_seen v vs at) ∙ map_seen v es other)))

  pub map_in : (v : Value) (es : List (MapKey × Value)) → map_entries v ≡ Some es → AllByRecursion FirmEntry es × AreAscending es → FirmIn v
  map_in v es at all =
      let neither : FirmOne v = (λ w other. absurd (cc (sym (map_seen v es at) ∙ single_seen v w other)), λ m other. absurd (cc (sym (map_seen v es at) ∙ message_seen v m other))) in
      firm_by v neither
      (λ vs other. absurd (cc (sym (map_seen v es at) ∙ list_seen v vs other)))
      (λ fs other. subst (λ (gs : List (MapKey × Value)). AllByRecursion FirmEntry gs × AreAscending gs) (ap (λ o. unwrap_or o fs) (sym at ∙ other)) all)

  -- what a field or an extension held before is firm, if it held anything
  abbrev pub WasFirm : Option Value → Type 0
  WasFirm old = (w : Value) → old ≡ Some w → FirmIn w

  pub held_items : (old : Option Value) (before : List Value) → WasFirm old → items_held old ≡ Some before → AllByRecursion FirmOne before
  held_items None before was at =
      let empty : before ≡ [] = cc at in
      subst (AllByRecursion FirmOne) (sym empty) tt
  held_items (Some w) before was at = firm_items w before at (was w refl)

  pub held_entries : (old : Option Value) (before : List (MapKey × Value)) → WasFirm old → entries_held old ≡ Some before → AllByRecursion FirmEntry before × AreAscending before
  held_entries None before was at =
      let empty : before ≡ [] = cc at in
      (subst (AllByRecursion FirmEntry) (sym empty) tt, subst AreAscending (sym empty) none_ascend)
  held_entries (Some w) before was at =
      let firm : FirmIn w = was w refl in
      (firm_entries w before at firm, firm.0.ascending before at)

-- ---- messages: what one holds is in order, its values are firm, and its other records fit
pub record Carries (Q : DynamicMessage → Type 0) (levels : ℕ) (c : Content) : Type 0 where
  pub fields : (n : ℕ) (v : Value) → value_at c.fields n ≡ Some v → FirmIn Q v
  pub extensions : (n : ℕ) (v : Value) → value_at c.extensions n ≡ Some v → FirmIn Q v
  pub ordered : IsOrdered c
  pub records : (n : ℕ) → AllByRecursion (FitsPayload levels) (payloads n c.unknown)

pub nothing_carries : (Q : DynamicMessage → Type 0) (levels : ℕ) (d : MessageDescriptor) → Carries Q levels nothing
nothing_carries Q levels d = record {
  fields = λ n v at. absurd (cc at);
  extensions = λ n v at. absurd (cc at);
  ordered = (empty_shaped (λ m. ⊥) d).ordered;
  records = λ n. tt;
}

abbrev pub Firm : PoolType → ℕ → DynamicMessage → Type 0
Firm pool zero m = ⊥
Firm pool (suc levels) m = (m.descriptor.pool.now ≡ pool) × IsExclusive m × Carries (Firm pool levels) levels (content_of m)

pub firm_pool : (pool : PoolType) (levels : ℕ) (m : DynamicMessage) → Firm pool levels m → m.descriptor.pool.now ≡ pool
firm_pool pool zero m firm = absurd firm
firm_pool pool (suc levels) m firm = firm.0

-- so is a message that is tidy and solid, and a firm one is solid
module _ (pool : PoolType) where
  one_firm : (levels : ℕ) → ((m : DynamicMessage) → Tidy pool levels m → Solid levels m → Firm pool levels m) → (m : DynamicMessage) → Tidy pool (suc levels) m → Solid (suc levels) m → Firm pool (suc levels) m
  one_firm levels below m tidy solid = (
    tidy.0.pooled,
    tidy.0.exclusive,
    record {
      fields = λ n v at. (solid.0.values.fields n v at, inside v (tidy.1.fields n v at) (solid.1.fields n v at));
      extensions = λ n v at. (solid.0.values.extensions n v at, inside v (tidy.1.extensions n v at) (solid.1.extensions n v at));
      ordered = tidy.0.ordered;
      records = solid.0.records;
    },
  ) where
    inside : (v : Value) → EachMessage (Tidy pool levels) v → EachMessage (Solid levels) v → EachMessage (Firm pool levels) v
    inside v t s =
        each_weaker (λ (m : DynamicMessage). Tidy pool levels m × Solid levels m) (Firm pool levels) (λ m h. below m h.0 h.1) v
        (both_each (Tidy pool levels) (Solid levels) v t s)

  pub solid_firm : (levels : ℕ) (m : DynamicMessage) → Tidy pool levels m → Solid levels m → Firm pool levels m
  solid_firm zero m tidy solid = absurd tidy
  solid_firm (suc levels) m tidy solid = one_firm levels (solid_firm levels) m tidy solid

  one_solid : (levels : ℕ) → ((m : DynamicMessage) → Firm pool levels m → Solid levels m) → (m : DynamicMessage) → Carries (Firm pool levels) levels (content_of m) → Solid (suc levels) m
  one_solid levels below m carries = (
    record {
      values = record {
        fields = λ n v at. (carries.fields n v at).0;
        extensions = λ n v at. (carries.extensions n v at).0;
      };
      records = carries.records;
    },
    record {
      fields = λ n v at. each_weaker (Firm pool levels) (Solid levels) below v (carries.fields n v at).1;
      extensions = λ n v at. each_weaker (Firm pool levels) (Solid levels) below v (carries.extensions n v at).1;
    },
  )

  pub firm_solid : (levels : ℕ) (m : DynamicMessage) → Firm pool levels m → Solid levels m
  firm_solid zero m firm = absurd firm
  firm_solid (suc levels) m firm = one_solid levels (firm_solid levels) m firm.2

  pub carries_solid : (levels : ℕ) (m : DynamicMessage) → Carries (Firm pool levels) levels (content_of m) → Solid (suc levels) m
  carries_solid levels m carries = one_solid levels (firm_solid levels) m carries
