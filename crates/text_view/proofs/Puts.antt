-- What putting a value into a message does to what is seen of the message.
use Rattle.std.proofs.Common.{◌≡◌, ◌≢◌, ◌⊎◌, inl, inr, ℕ, ◌==◌, ◌||◌, ◌&&◌, not, Bool, true, false, true≢false, cond, Option, Some, None, option_map, refl, sym, ap, ◌∙◌, subst, arith, rules}
use mathlib.Core.Path.{fun_ext}
use Rattle.protobuf_model.specs.Types.{Field, oneof_of, same_oneof, rival}
use Rattle.protobuf_model.specs.Values.{message, Held, Message, absent}
use Rattle.protobuf_model.specs.Meaning.{payloads}
use Rattle.reflect_tables.specs.Types.{PoolType, FieldType}
use Rattle.reflect_entries.specs.Entries.{value_at}
use Rattle.reflect_pool.specs.FieldsLeft.{field_type}
use Rattle.reflect_pool.specs.declared.field.FieldDescriptor.{FieldDescriptor}
use Rattle.reflect_pool.specs.declared.message.MessageDescriptor.{MessageDescriptor}
use Rattle.reflect_message.specs.Declares.{Owns, OwnsExtension}
use Rattle.reflect_message.specs.Held.{fields_of, extensions_of, unknown_of, UpdatesExtension}
use Rattle.reflect_message.specs.Known.{known_field, known_extension}
use Rattle.reflect_message.specs.Messages.{message_in}
use Rattle.reflect_message.specs.Oneofs.{IsExclusive, IsSibling, SetsField}
use Rattle.reflect_message.specs.Names.{DynamicMessage, Value}
use Rattle.reflect_message.specs.declared.value.ValueOf.{the_lemmas}
use Rattle.reflect_message.specs.declared.value.ValueOf.TheVariants as held
use Rattle.text_model.specs.Value.{assign, settled}
use Rattle.message_view.specs.Types.{field_at, part_of, values_of, entry_part, name_at, types_of}
use Rattle.message_view.specs.Views.{held_in, held_either, content_view, contents_view, view}
use Rattle.message_view.proofs.Fields.{owned, extension_owned}
use Rattle.message_view.proofs.Oneofs.{sibling_is_rival, rival_is_sibling}
use Rattle.message_view.proofs.Seen.{value_at-view, view_opened, message_seen}
use Rattle.message_view.specs.Sound.{HaveNames, AreApart}
use Rattle.message_view.proofs.Sound.{named}
use Rattle.protox_lex.specs.Class.{Text}
use Rattle.reflect_pool.specs.Shapes.{holds_list, holds_map}
use Rattle.reflect_pool.specs.declared.extension.ExtensionDescriptor.{ExtensionDescriptor}
use Rattle.reflect_scalar.specs.FieldTypes.{field_pool, extension_pool, extension_type}
use Rattle.reflect_format.specs.Named.{NamesField, NamesExtension}
use Rattle.reflect_format.specs.Steps.{Puts}
use Rattle.reflect_format.specs.Takes.{holds_many, target_type}
use Rattle.reflect_format.specs.declared.target.Target.{Target}
use Rattle.reflect_format.specs.declared.target.Target.TheVariants as targets
use Rattle.text_view.specs.Targets.{target_field}
use Rattle.text_view.specs.Values.{IsOne}
use Rattle.text_view.proofs.Apart.{named_owns, named_extension_owns, extension_there, no_field_there}
use Rattle.text_view.proofs.Scalars.{content_is}

pub is_number : (q n : ℕ) → (q == n) ≡ true → q ≡ n
is_number q n e = grind (arith, e)

pub number_is : (q n : ℕ) → q ≡ n → (q == n) ≡ true
number_is q n e = grind (arith, e)

-- what is seen under a number, by a type
abbrev pub shown : MessageDescriptor → DynamicMessage → ℕ → Held
shown d m q =
    held_either d.pool.now (known_field d.pool.now d.index q) (known_extension d.pool.now d.index q)
    (option_map content_view (value_at (fields_of m) q)) (option_map content_view (value_at (extensions_of m) q))
    (payloads q (unknown_of m))

pub seen_at : (m : DynamicMessage) (q : ℕ) → view m q ≡ shown m.descriptor m q
seen_at m q =
    let d = m.descriptor in
    let f = known_field d.pool.now d.index q in
    let x = known_extension d.pool.now d.index q in
    ap (λ (g : Message). g q) (view_opened m)
    ∙ ap (λ o. held_either d.pool.now f x o (value_at (contents_view (extensions_of m)) q) (payloads q (unknown_of m))) (value_at-view (fields_of m) q)
    ∙ ap (λ o. held_either d.pool.now f x (option_map content_view (value_at (fields_of m) q)) o (payloads q (unknown_of m))) (value_at-view (extensions_of m) q)

pub message_is : (m : DynamicMessage) → message_in (held.Message m) ≡ Some m
message_is m = search (rules, the_lemmas)

-- a single value or a message, as a field holds it
held_settled : (pool : PoolType) (f : FieldType) (v : Value) → IsOne v → held_in pool f (Some (content_view v)) ≡ settled (part_of pool f) (content_view v)
held_settled pool f v (inl (x, one)) =
    ap (λ c. held_in pool f (Some c)) (content_is v x one) ∙ sym (ap (settled (part_of pool f)) (content_is v x one))
held_settled pool f v (inr (m, is)) =
    let seen : content_view v ≡ message (view m) = ap content_view is ∙ message_seen (held.Message m) m (message_is m) in
    ap (λ c. held_in pool f (Some c)) seen ∙ sym (ap (settled (part_of pool f)) seen)

-- what is changed by a field that holds something else, where other members of its oneof are unset
module _ (old new : DynamicMessage) (same : new.descriptor ≡ old.descriptor) (f : FieldDescriptor) (owns : Owns old.descriptor f)
    (gone : (q : ℕ) → IsSibling old.descriptor f q → value_at (fields_of new) q ≡ None)
    (others : (q : ℕ) → q ≢ (field_type f).number → (IsSibling old.descriptor f q → ⊥) → value_at (fields_of new) q ≡ value_at (fields_of old) q)
    (extended : extensions_of new ≡ extensions_of old) (unknown : unknown_of new ≡ unknown_of old)
    (h : Held) (stands : held_in old.descriptor.pool.now (field_type f) (option_map content_view (value_at (fields_of new) (field_type f).number)) ≡ h)
    (type : ℕ → Option Field) (told : (n : ℕ) → type n ≡ field_at old.descriptor.pool.now old.descriptor.index n) where
  abbrev n : ℕ
  n = (field_type f).number

  abbrev pool : PoolType
  pool = old.descriptor.pool.now

  new_at : (q : ℕ) → view new q ≡ shown old.descriptor new q
  new_at q = seen_at new q ∙ ap (λ d. shown d new q) same

  here : view new n ≡ h
  here =
      new_at n
      ∙ ap (λ o. held_either pool o (known_extension pool old.descriptor.index n) (option_map content_view (value_at (fields_of new) n)) (option_map content_view (value_at (extensions_of new) n)) (payloads n (unknown_of new))) (owned old.descriptor f owns)
      ∙ stands

  under_rival : (q : ℕ) → IsSibling old.descriptor f q → view new q ≡ absent
  under_rival q s =
      let g : FieldDescriptor = s.1 in
      let known : known_field pool old.descriptor.index q ≡ Some (field_type g) = ap (known_field pool old.descriptor.index) (sym s.3) ∙ owned old.descriptor g s.2 in
      new_at q
      ∙ ap (λ o. held_either pool o (known_extension pool old.descriptor.index q) (option_map content_view (value_at (fields_of new) q)) (option_map content_view (value_at (extensions_of new) q)) (payloads q (unknown_of new))) known
      ∙ ap (λ o. held_in pool (field_type g) (option_map content_view o)) (gone q s)

  elsewhere : (q : ℕ) → q ≢ n → (IsSibling old.descriptor f q → ⊥) → view new q ≡ view old q
  elsewhere q apart alone =
      let x = known_field pool old.descriptor.index q in
      let y = known_extension pool old.descriptor.index q in
      new_at q
      ∙ ap (λ o. held_either pool x y (option_map content_view o) (option_map content_view (value_at (extensions_of new) q)) (payloads q (unknown_of new))) (others q apart alone)
      ∙ ap (λ es. held_either pool x y (option_map content_view (value_at (fields_of old) q)) (option_map content_view (value_at es q)) (payloads q (unknown_of new))) extended
      ∙ ap (λ rs. held_either pool x y (option_map content_view (value_at (fields_of old) q)) (option_map content_view (value_at (extensions_of old) q)) (payloads q rs)) unknown
      ∙ sym (seen_at old q)

  at_number : (q : ℕ) → view new q ≡ assign type n h (view old) q
  at_number q = by (q == n) refl (rival type n q) refl where
    by : (a : Bool) → (q == n) ≡ a → (b : Bool) → rival type n q ≡ b → view new q ≡ cond (q == n) h (cond (rival type n q) absent (view old q))
    by true is b r =
        ap (view new) (is_number q (field_type f).number is) ∙ here ∙ sym (ap (λ a. cond a h (cond (rival type n q) absent (view old q))) is)
    by false is true r =
        under_rival q (rival_is_sibling old.descriptor type told f owns q r)
        ∙ sym (ap (λ a. cond a h (cond (rival type n q) absent (view old q))) is ∙ ap (λ b. cond b absent (view old q)) r)
    by false is false r =
        elsewhere q (λ e. true≢false (sym (number_is q (field_type f).number e) ∙ is))
        (λ s. true≢false (sym (sibling_is_rival old.descriptor type told f owns q s) ∙ r))
        ∙ sym (ap (λ a. cond a h (cond (rival type n q) absent (view old q))) is ∙ ap (λ b. cond b absent (view old q)) r)

  pub field_changed : view new ≡ assign type n h (view old)
  field_changed = fun_ext at_number

pub field_put : (old new : DynamicMessage) → new.descriptor ≡ old.descriptor → (f : FieldDescriptor) (v : Value) → Owns old.descriptor f → IsExclusive old → SetsField old new f v → IsOne v
    → (type : ℕ → Option Field) → ((n : ℕ) → type n ≡ field_at old.descriptor.pool.now old.descriptor.index n)
    → view new ≡ assign type (field_type f).number (settled (part_of old.descriptor.pool.now (field_type f)) (content_view v)) (view old)
field_put old new same f v owns exclusive sets one =
    field_changed old new same f owns (sets.siblings owns exclusive) (sets.others owns exclusive) sets.extensions sets.unknown
    (settled (part_of old.descriptor.pool.now (field_type f)) (content_view v))
    (ap (λ o. held_in old.descriptor.pool.now (field_type f) (option_map content_view o)) sets.here ∙ held_settled old.descriptor.pool.now (field_type f) v one)

-- so by an extension, which is in no oneof
module _ (old new : DynamicMessage) (same : new.descriptor ≡ old.descriptor) (x : ExtensionDescriptor) (owns : OwnsExtension old.descriptor x)
    (others : (q : ℕ) → q ≢ (extension_type x).number → value_at (extensions_of new) q ≡ value_at (extensions_of old) q)
    (fields : fields_of new ≡ fields_of old) (unknown : unknown_of new ≡ unknown_of old)
    (h : Held) (stands : held_in old.descriptor.pool.now (extension_type x) (option_map content_view (value_at (extensions_of new) (extension_type x).number)) ≡ h)
    (type : ℕ → Option Field) (alone : oneof_of (type (extension_type x).number) ≡ None)
    (free : known_field old.descriptor.pool.now old.descriptor.index (extension_type x).number ≡ None) where
  abbrev its_number : ℕ
  its_number = (extension_type x).number

  abbrev its_pool : PoolType
  its_pool = old.descriptor.pool.now

  extended_at : (q : ℕ) → view new q ≡ shown old.descriptor new q
  extended_at q = seen_at new q ∙ ap (λ d. shown d new q) same

  extension_here : view new its_number ≡ h
  extension_here =
      extended_at its_number
      ∙ ap (λ o. held_either its_pool o (known_extension its_pool old.descriptor.index its_number) (option_map content_view (value_at (fields_of new) its_number)) (option_map content_view (value_at (extensions_of new) its_number)) (payloads its_number (unknown_of new))) free
      ∙ ap (λ o. held_either its_pool None o (option_map content_view (value_at (fields_of new) its_number)) (option_map content_view (value_at (extensions_of new) its_number)) (payloads its_number (unknown_of new))) (extension_owned old.descriptor x owns)
      ∙ stands

  extension_elsewhere : (q : ℕ) → q ≢ its_number → view new q ≡ view old q
  extension_elsewhere q apart =
      let f = known_field its_pool old.descriptor.index q in
      let y = known_extension its_pool old.descriptor.index q in
      extended_at q
      ∙ ap (λ es. held_either its_pool f y (option_map content_view (value_at es q)) (option_map content_view (value_at (extensions_of new) q)) (payloads q (unknown_of new))) fields
      ∙ ap (λ o. held_either its_pool f y (option_map content_view (value_at (fields_of old) q)) (option_map content_view o) (payloads q (unknown_of new))) (others q apart)
      ∙ ap (λ rs. held_either its_pool f y (option_map content_view (value_at (fields_of old) q)) (option_map content_view (value_at (extensions_of old) q)) (payloads q rs)) unknown
      ∙ sym (seen_at old q)

  -- an extension is in no oneof
  no_rival : (q : ℕ) → rival type (extension_type x).number q ≡ false
  no_rival q = ap (λ o. not (q == (extension_type x).number) && same_oneof o (oneof_of (type q))) alone ∙ never (not (q == (extension_type x).number)) where
    never : (b : Bool) → (b && false) ≡ false
    never true = refl
    never false = refl

  extension_at_number : (q : ℕ) → view new q ≡ assign type its_number h (view old) q
  extension_at_number q = by (q == its_number) refl where
    by : (a : Bool) → (q == its_number) ≡ a → view new q ≡ cond (q == its_number) h (cond (rival type its_number q) absent (view old q))
    by true is =
        ap (view new) (is_number q (extension_type x).number is) ∙ extension_here
        ∙ sym (ap (λ a. cond a h (cond (rival type its_number q) absent (view old q))) is)
    by false is =
        extension_elsewhere q (λ e. true≢false (sym (number_is q (extension_type x).number e) ∙ is))
        ∙ sym (ap (λ a. cond a h (cond (rival type its_number q) absent (view old q))) is ∙ ap (λ b. cond b absent (view old q)) (no_rival q))

  pub extension_changed : view new ≡ assign type its_number h (view old)
  extension_changed = fun_ext extension_at_number

pub extension_put : (old new : DynamicMessage) (x : ExtensionDescriptor) (v : Value) → OwnsExtension old.descriptor x → UpdatesExtension old new (extension_type x).number (Some v) → IsOne v
    → (type : ℕ → Option Field) → oneof_of (type (extension_type x).number) ≡ None → known_field old.descriptor.pool.now old.descriptor.index (extension_type x).number ≡ None
    → view new ≡ assign type (extension_type x).number (settled (part_of old.descriptor.pool.now (extension_type x)) (content_view v)) (view old)
extension_put old new x v owns sets one =
    extension_changed old new sets.same_type x owns sets.extension.others sets.fields sets.unknown
    (settled (part_of old.descriptor.pool.now (extension_type x)) (content_view v))
    (ap (λ o. held_in old.descriptor.pool.now (extension_type x) (option_map content_view o)) sets.extension.here ∙ held_settled old.descriptor.pool.now (extension_type x) v one)

-- a field of one value has the values that it has
pub one_part : (pool : PoolType) (f : FieldType) → holds_map pool f ≡ false → part_of pool (values_of pool f) ≡ part_of pool f
one_part pool f e = ap (λ b. part_of pool (cond b (entry_part pool f 2) f)) e

no_map : (a b : Bool) → (a || b) ≡ false → b ≡ false
no_map false b e = e
no_map true b e = absurd (cc e)

-- what is put into a target of one value
pub target_put : (old new : DynamicMessage) → AreApart old.descriptor.pool.now → HaveNames old.descriptor.pool.now → (w : Text) (t : Target)
    → NamesField old.descriptor w t ⊎ NamesExtension old.descriptor w t → holds_many t ≡ false → (v : Value) → IsOne v → IsExclusive old
    → new.descriptor ≡ old.descriptor → Puts t v old new
    → view new ≡ assign (types_of old.descriptor.pool.now (name_at old.descriptor.pool.now old.descriptor.index)) (target_type t).number
    (settled (target_field old.descriptor t).part (content_view v)) (view old)
target_put old new apart names w (targets.Field f) (inl h) many v one exclusive same sets =
    let d = old.descriptor in
    let owns = named_owns d apart w f h in
    let single_part = one_part d.pool.now (field_type f) (subst (λ p. holds_map p (field_type f) ≡ false) owns.0.1 (no_map (holds_list (field_pool f) (field_type f)) (holds_map (field_pool f) (field_type f)) many)) in
    field_put old new same f v owns exclusive sets one (types_of d.pool.now (name_at d.pool.now d.index)) (λ n. named d.pool.now names d.index n d.in_range)
    ∙ ap (λ p. assign (types_of d.pool.now (name_at d.pool.now d.index)) (field_type f).number (settled p (content_view v)) (view old)) (sym single_part)
target_put old new apart names w (targets.Field f) (inr h) many v one exclusive same sets = absurd h
target_put old new apart names w (targets.Extension x) (inl h) many v one exclusive same sets = absurd h
target_put old new apart names w (targets.Extension x) (inr h) many v one exclusive same sets =
    let d = old.descriptor in
    let owns = named_extension_owns d apart w x h in
    let single_part = one_part d.pool.now (extension_type x) (subst (λ p. holds_map p (extension_type x) ≡ false) owns.0.0 (no_map (holds_list (extension_pool x) (extension_type x)) (holds_map (extension_pool x) (extension_type x)) many)) in
    let there = named d.pool.now names d.index (extension_type x).number d.in_range ∙ extension_there d apart x owns in
    extension_put old new x v owns sets one (types_of d.pool.now (name_at d.pool.now d.index)) (ap oneof_of there) (no_field_there d apart x owns)
    ∙ ap (λ p. assign (types_of d.pool.now (name_at d.pool.now d.index)) (extension_type x).number (settled p (content_view v)) (view old)) (sym single_part)
