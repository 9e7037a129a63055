-- Messages that are alike are expanded as messages that are alike, under one URL, or neither is.
use Rattle.std.proofs.Common.{◌≡◌, inl, inr, ◌++◌, ◌∷◌, ℕ, false, Option, Some, None, unwrap_or, refl, sym, ap, ◌∙◌, subst}
use Rattle.std.specs.Option.{option_and_then}
use Rattle.std.specs.Prelude.{codes}
use Rattle.protox_lex.specs.Class.{Text}
use Rattle.reflect_tables.specs.Finding.{IsFirst}
use Rattle.reflect_tables.specs.Types.{FieldType, KindType, MessageType, PoolType, type_at}
use Rattle.reflect_tables.specs.Types as types
use Rattle.reflect_pool.specs.Dots.{without_dot}
use Rattle.reflect_pool.specs.FieldsLeft.{field_type}
use Rattle.reflect_pool.specs.declared.message.MessageDescriptor.{MessageDescriptor}
use Rattle.reflect_wire.specs.declared.wire_error.WireError.{WireError}
use Rattle.reflect_entries.specs.Entries.{value_at}
use Rattle.reflect_any.specs.Any.{IsAny, IsLone}
use Rattle.reflect_scalar.specs.Singles as held
use Rattle.reflect_decode.specs.Spelled.{IsSpelled, TellsWhy}
use Rattle.reflect_message.specs.Held.{fields_of}
use Rattle.reflect_message.specs.Known.{if_held, is_float, known_field, numbered_field}
use Rattle.reflect_message.specs.Names.{DynamicMessage, Value}
use Rattle.reflect_message.specs.Shown.{IsHeldOrDefault}
use Rattle.reflect_message.specs.Singles as singles
use Rattle.print_parts.specs.Expands.{Expands, FindsByUrl, IsFault, IsUnder, bytes_in, bytes_of, holds, other, refused, text_in, text_of, without_bytes, without_type, without_url}
use Rattle.text_model.specs.Printed.{last_slash}
use Rattle.message_view.specs.Sound.{AreApart, IsSound}
use Rattle.text_view.proofs.Entries.{whole_field}
use Rattle.print_view.proofs.Alike.{AlikeHeld, AlikeMessages, AlikeValues, Likeness, Within}
use Rattle.print_view.proofs.AlikeSorts.{as_none, as_single}
use Rattle.print_view.proofs.Anys.{found_slash, no_slash}
use Rattle.print_view.proofs.DecidingTaken.{AreTaken}
use Rattle.print_view.proofs.OneDecoder.{spelled_taken, told_excluded}
use Rattle.print_view.proofs.TextParts.{first_once}
use Rattle.print_view.proofs.Twins.{spelled_twins}
use Rattle.print_view.proofs.UnderNumbers.{under_found, under_value}

-- ---- where a URL leads
module _ (p : PoolType) (url : Text) where
  abbrev IsCalled : Text → Option ℕ → Type 0
  IsCalled name found = IsFirst (λ (m : MessageType). m.full_name ≡ without_dot name) p.messages found

  one_name : (front name lead called : Text) → url ≡ front ++ 47 ∷ name → last_slash (front ++ 47 ∷ name) ≡ Some (front, name) → url ≡ lead ++ 47 ∷ called → last_slash (lead ++ 47 ∷ called) ≡ Some (lead, called) → name ≡ called
  one_name front name lead called is one also two =
      let both : Some (front, name) ≡ Some (lead, called) = sym one ∙ ap last_slash (sym is ∙ also) ∙ two in
      ap (λ (o : Option (Text × Text)). elim o [ None ↦ name | Some q ↦ q.1 ]) both

  one_place : (d e : MessageDescriptor) → FindsByUrl p url (Some d) → FindsByUrl p url (Some e) → d.index ≡ e.index
  one_place d e (inl none) h = absurd (cc none.1)
  one_place d e (inr g) (inl none) = absurd (cc none.1)
  one_place d e (inr (front, name, is, lacks, found)) (inr (lead, called, also, free, there)) =
      let same = one_name front name lead called is (found_slash front name lacks) also (found_slash lead called free) in
      let places = first_once (λ (m : MessageType). m.full_name ≡ without_dot called) p.messages (type_at p 0) (Some d.index) (Some e.index) (subst (λ name. IsCalled name (Some d.index)) same found) there in
      ap (λ o. unwrap_or o 0) places

  no_place : (e : MessageDescriptor) → FindsByUrl p url None → FindsByUrl p url (Some e) → ⊥
  no_place e g (inl none) = cc none.1
  no_place e (inl (lacks, none)) (inr (lead, called, also, free, there)) = cc (sym (no_slash url lacks) ∙ ap last_slash also ∙ found_slash lead called free)
  no_place e (inr (front, name, is, lacks, missing)) (inr (lead, called, also, free, there)) =
      let same = one_name front name lead called is (found_slash front name lacks) also (found_slash lead called free) in
      let places = first_once (λ (m : MessageType). m.full_name ≡ without_dot called) p.messages (type_at p 0) None (Some e.index) (subst (λ name. IsCalled name None) same missing) there in
      cc places

-- ---- what stands in the fields of an Any
module _ (A : Likeness) (itself : A.same → (m : DynamicMessage) → A.messages m m) where
  one_single : (v w : Value) → AlikeValues A v w → singles.single v ≡ singles.single w
  one_single v w alike = by (singles.single v) refl where
    by : (o : Option held.Single) → singles.single v ≡ o → singles.single v ≡ singles.single w
    by None is = is ∙ sym (as_none A itself v w alike is)
    by (Some s) is = is ∙ sym (as_single A itself v w alike s is)

  module _ (pool : PoolType) (apart : AreApart pool) (m n : DynamicMessage) (alike : AlikeHeld A pool m n) (k : ℕ) (kind : KindType) (whole : is_float kind ≡ false)
      (lone : IsLone pool m.descriptor.index kind (numbered_field pool m.descriptor.index k)) (u w : Value) (one : IsUnder m k u) (also : IsUnder n k w) where
    abbrev i : ℕ
    i = m.descriptor.index

    abbrev g : FieldType
    g = field_type one.field

    found : numbered_field pool i k ≡ Some g
    found = subst (λ p. numbered_field p i k ≡ Some g) alike.first (under_found m (subst AreApart (sym alike.first) apart) k u one)

    same : field_type also.field ≡ g
    same =
        let there = subst (λ j. numbered_field pool j k ≡ Some (field_type also.field)) (sym alike.index)
        (subst (λ p. numbered_field p n.descriptor.index k ≡ Some (field_type also.field)) alike.second (under_found n (subst AreApart (sym alike.second) apart) k w also)) in
        cc (sym there ∙ found)

    its_lone : IsLone pool i kind (Some g)
    its_lone = subst (IsLone pool i kind) found lone

    known : known_field pool i k ≡ Some g
    known = ap (option_and_then (if_held pool)) found ∙ whole_field pool g (ap is_float its_lone.0 ∙ whole) its_lone.1.1

    here : IsHeldOrDefault pool g (value_at (fields_of m) k) u
    here = subst (λ p. IsHeldOrDefault p g (value_at (fields_of m) k) u) alike.first (under_value m (subst AreApart (sym alike.first) apart) k u one)

    there : IsHeldOrDefault pool g (value_at (fields_of n) k) w
    there =
        subst (λ t. IsHeldOrDefault pool t (value_at (fields_of n) k) w) same
        (subst (λ p. IsHeldOrDefault p (field_type also.field) (value_at (fields_of n) k) w) alike.second (under_value n (subst AreApart (sym alike.second) apart) k w also))

    single_under : singles.single u ≡ singles.single w
    single_under = one_single u w ((alike.fields k g known).values u w here there)

-- ---- messages that are alike
module _ (pool : PoolType) (sound : IsSound pool) (levels : ℕ) (m n : DynamicMessage) (alike : AlikeHeld (Within pool levels) pool m n) where
  abbrev A : Likeness
  A = Within pool levels

  -- both are Anys, or neither is
  abbrev AnyAt : PoolType → ℕ → Type 0
  AnyAt p i = ((type_at p i).full_name ≡ codes "google.protobuf.Any") × IsLone p i types.string (numbered_field p i 1) × IsLone p i types.bytes (numbered_field p i 2)

  any_here : IsAny m.descriptor → AnyAt pool m.descriptor.index
  any_here is = subst (λ p. AnyAt p m.descriptor.index) alike.first is

  any_there : IsAny n.descriptor → AnyAt pool m.descriptor.index
  any_there is = subst (AnyAt pool) (sym alike.index) (subst (λ p. AnyAt p n.descriptor.index) alike.second is)

  any_first : AnyAt pool m.descriptor.index → IsAny m.descriptor
  any_first is = subst (λ p. AnyAt p m.descriptor.index) (sym alike.first) is

  any_second : AnyAt pool m.descriptor.index → IsAny n.descriptor
  any_second is = subst (λ p. AnyAt p n.descriptor.index) (sym alike.second) (subst (AnyAt pool) alike.index is)

  -- so both have one URL and the same bytes
  url_is : AnyAt pool m.descriptor.index → (u w : Value) → IsUnder m 1 u → IsUnder n 1 w → text_of u ≡ text_of w
  url_is is u w one also = ap text_in (single_under A (λ x m. absurd x) pool sound.apart m n alike 1 types.string refl is.1 u w one also)

  bytes_are : AnyAt pool m.descriptor.index → (u w : Value) → IsUnder m 2 u → IsUnder n 2 w → bytes_of u ≡ bytes_of w
  bytes_are is u w one also = ap bytes_in (single_under A (λ x m. absurd x) pool sound.apart m n alike 2 types.bytes refl is.2 u w one also)

  told_same : (a b : Option Text) (x y : Text) → a ≡ Some x → b ≡ Some y → a ≡ b → x ≡ y
  told_same a b x y one two both = ap (λ o. unwrap_or o x) (sym one ∙ both ∙ two)

  never : (a b : Option Text) (y : Text) → a ≡ None → b ≡ Some y → a ≡ b → ⊥
  never a b y none some both = cc (sym none ∙ both ∙ some)

  by_pool : (a : DynamicMessage) (url : Text) (found : Option MessageDescriptor) → a.descriptor.pool.now ≡ pool → FindsByUrl a.descriptor.pool.now url found → FindsByUrl pool url found
  by_pool a url found there h = subst (λ p. FindsByUrl p url found) there h

  -- the bytes that one spells the other does not refuse
  not_refused : (d e : MessageDescriptor) (bytes : Text) (why : WireError) (body : DynamicMessage) → d.pool.now ≡ pool → e.pool.now ≡ pool → d.index ≡ e.index → IsSpelled d bytes body → IsFault why → TellsWhy e bytes why → ⊥
  not_refused d e bytes why body first second place spelled fault tells =
      told_excluded e (subst IsSound (sym second) sound) bytes why fault tells
      (subst (λ p. AreTaken p e.index bytes) (first ∙ sym second) (subst (λ j. AreTaken d.pool.now j bytes) place (spelled_taken d bytes body spelled)))

  pub one_expansion : {url link : Text} {body inner : DynamicMessage} → Expands m (Some (url, body)) → Expands n (Some (link, inner)) → (url ≡ link) × AlikeMessages pool 101 body inner
  one_expansion (holds u b url bytes d body is under told finds there beside read type spelled) (holds w c link also e inner too below tells leads that near reads sort spells) = (link_is, twins) where
    its : AnyAt pool m.descriptor.index
    its = any_here is

    link_is : url ≡ link
    link_is = told_same (text_of u) (text_of w) url link told tells (url_is its u w under below)

    same_bytes : bytes ≡ also
    same_bytes = told_same (bytes_of b) (bytes_of c) bytes also read reads (bytes_are its b c beside near)

    place : d.index ≡ e.index
    place = one_place pool link d e (subst (λ url. FindsByUrl pool url (Some d)) link_is (by_pool m url (Some d) alike.first finds)) (by_pool n link (Some e) alike.second leads)

    twins : AlikeMessages pool 101 body inner
    twins =
        spelled_twins pool sound also body inner
        (ap (λ (d : MessageDescriptor). d.pool.now) type ∙ there ∙ alike.first) (ap (λ (d : MessageDescriptor). d.pool.now) sort ∙ that ∙ alike.second)
        (ap (λ (d : MessageDescriptor). d.index) type ∙ place ∙ sym (ap (λ (d : MessageDescriptor). d.index) sort))
        (subst (λ (d : MessageDescriptor). IsSpelled d also body) (sym type) (subst (λ bytes. IsSpelled d bytes body) same_bytes spelled))
        (subst (λ (d : MessageDescriptor). IsSpelled d also inner) (sym sort) spells)

  -- where one is expanded, the other is
  pub not_both : {url : Text} {body : DynamicMessage} → Expands m (Some (url, body)) → Expands n None → ⊥
  not_both (holds u b url bytes d body is under told finds there beside read type spelled) none = by none where
    its : AnyAt pool m.descriptor.index
    its = any_here is

    by : Expands n None → ⊥
    by (other never_any) = never_any (any_second its)
    by (without_url w below missing) = never (text_of w) (text_of u) url missing told (sym (url_is its u w under below))
    by (without_type w link below tells leads) =
        let same = told_same (text_of u) (text_of w) url link told tells (url_is its u w under below) in
        no_place pool url d (subst (λ link. FindsByUrl pool link None) (sym same) (by_pool n link None alike.second leads)) (by_pool m url (Some d) alike.first finds)
    by (without_bytes c near missing) = never (bytes_of c) (bytes_of b) bytes missing read (sym (bytes_are its b c beside near))
    by (refused w c link also e why below tells leads that near reads fault whyso) =
        let same = told_same (text_of u) (text_of w) url link told tells (url_is its u w under below) in
        let same_bytes = told_same (bytes_of b) (bytes_of c) bytes also read reads (bytes_are its b c beside near) in
        let place = one_place pool link d e (subst (λ url. FindsByUrl pool url (Some d)) same (by_pool m url (Some d) alike.first finds)) (by_pool n link (Some e) alike.second leads) in
        not_refused d e also why body (there ∙ alike.first) (that ∙ alike.second) place (subst (λ bytes. IsSpelled d bytes body) same_bytes spelled) fault whyso

  pub nor_both : {url : Text} {body : DynamicMessage} → Expands n (Some (url, body)) → Expands m None → ⊥
  nor_both (holds u b url bytes d body is under told finds there beside read type spelled) none = by none where
    its : AnyAt pool m.descriptor.index
    its = any_there is

    by : Expands m None → ⊥
    by (other never_any) = never_any (any_first its)
    by (without_url w below missing) = never (text_of w) (text_of u) url missing told (url_is its w u below under)
    by (without_type w link below tells leads) =
        let same = told_same (text_of w) (text_of u) link url tells told (url_is its w u below under) in
        no_place pool url d (subst (λ link. FindsByUrl pool link None) same (by_pool m link None alike.first leads)) (by_pool n url (Some d) alike.second finds)
    by (without_bytes c near missing) = never (bytes_of c) (bytes_of b) bytes missing read (bytes_are its c b near beside)
    by (refused w c link also e why below tells leads that near reads fault whyso) =
        let same = told_same (text_of w) (text_of u) link url tells told (url_is its w u below under) in
        let same_bytes = told_same (bytes_of c) (bytes_of b) also bytes reads read (bytes_are its c b near beside) in
        let place = one_place pool url d e (by_pool n url (Some d) alike.second finds) (subst (λ link. FindsByUrl pool link (Some e)) same (by_pool m link (Some e) alike.first leads)) in
        not_refused d e bytes why body (there ∙ alike.second) (that ∙ alike.first) place spelled fault (subst (λ bytes. TellsWhy e bytes why) same_bytes whyso)
