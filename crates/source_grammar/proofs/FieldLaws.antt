-- What the rules of types, labels and fields that nothing nests in read.
use Rattle.std.proofs.Common.{[], ◌≡◌, Bool, true, false, List, ◌∷◌, Option, Some, None, Ok, refl, ap, sym, subst, ◌∙◌, inl, inr, ◌⊎◌}
use Rattle.std.specs.Prelude.{if◌then◌else◌, codes}
use Rattle.std.specs.Str.{bytes_eq}
use Rattle.std.proofs.lemmas.Slice.Eq.{bytes_eq-Decides}
use Rattle.descriptor_records.specs.declared.field.FieldType.{FieldType}
use Rattle.descriptor_records.specs.declared.field.FieldType.TheVariants as types
use Rattle.descriptor_records.specs.declared.field.Label.{Label}
use Rattle.descriptor_records.specs.declared.field.Label.TheVariants as labels
use Rattle.protox_fields.specs.FieldGrammar.{named_type, ty_of, ty_after, ty, map_type, map_by, map_or_name, field_type, extensions, Labelled, repeated_if, required_if, optional_if, label, plain_field}
use Rattle.protox_lex.specs.Class.{Text}
use Rattle.protox_lex.specs.Token.{Token, ident, sign}
use Rattle.protox_lex.specs.declared.literal.Int.{Int}
use Rattle.protox_lex.specs.declared.span.Span.{Span}
use Rattle.protox_lex.specs.declared.token.Sign.{Sign}
use Rattle.protox_lex.specs.declared.token.Sign.TheVariants as s
use Rattle.protox_options.specs.NameGrammar.{parts_after, full_ident}
use Rattle.protox_tree.specs.Nest.{MapType, Extensions, Field, field, Kind, normal, group, map_kind}
use Rattle.protox_tree.specs.declared.range.ReservedRange.{ReservedRange}
use Rattle.protox_tree.specs.Scalar.{scalar_of}
use Rattle.protox_tree.specs.Tree.{Word, Ty, scalar, named, OptionList}
use Rattle.protox_tokens.specs.Stream.{Stream, source, tail}
use Rattle.protox_tokens.specs.Parser.{Outcome, Parser, and_then, ◌>>=◌, ◌<$>◌, pure, same, sees, eat, word}
use Rattle.protox_tokens.specs.Span.{across}
use Rattle.protox_tokens.specs.Marks.{Mark, spot, IsAny}
use Rattle.protox_tokens.proofs.Local.{same_ok, bound}
use Rattle.protox_tokens.proofs.Both.{IsNamed, Always, Free, then_ok}
use Rattle.protox_tokens.proofs.Steps.{Absent, sees_first, eat_none}
use Rattle.protox_tokens.proofs.Lists.{lastly_all}
use Rattle.source_grammar.specs.Languages.{Language, one, the, token_at, begins, ends, ◌▸◌, if_there, each, FirstIsNoneOf}
use Rattle.source_grammar.specs.Names.{a_word, full_name}
use Rattle.source_grammar.specs.Options.{options}
use Rattle.source_grammar.specs.Ranges.{NoEnd}
use Rattle.source_grammar.specs.Fields.{scalar_word, scalar_words, a_word_if, a_type, TyEnds, a_map, a_kind, a_label, label_words, a_numbered, an_extensions}
use Rattle.source_grammar.proofs.Rules.{Rule, rule_as, rule_then, rule_token, rule_close, rule_eat, first_is}
use Rattle.source_grammar.proofs.NameLaws.{rule_word, rule_full, rule_int, word_misses}
use Rattle.source_grammar.proofs.OptionLaws.{rule_options}
use Rattle.source_grammar.proofs.RangeLaws.{rule_ranges, ListEnds, no_to}
use Rattle.source_grammar.proofs.EnumLaws.{bracket_or, whole}
use Rattle.source_grammar.proofs.Ahead.{one_seen, begins_misses}
use Rattle.source_grammar.proofs.Choices.{Differs, words_of}

-- ---- which words come first

abbrev AllDiffer : List Text → Text → Type 0
AllDiffer [] x = Unit {0}
AllDiffer (k ∷ ks) x = (bytes_eq x k ≡ false) × AllDiffer ks x

first_differs : (ks : List Text) (w : Word) (ts r : Stream) → a_word w ts r → AllDiffer ks w.text → FirstIsNoneOf ks ts
first_differs [] w ts r h d = tt
first_differs (k ∷ ks) w ts r h d = (sees_first (ident k) (spot w.span (ident w.text)) [] ts r h ∙ d.0, first_differs ks w ts r h d.1)

differs_first : (ks : List Text) (w : Word) (ts r : Stream) → a_word w ts r → FirstIsNoneOf ks ts → AllDiffer ks w.text
differs_first [] w ts r h d = tt
differs_first (k ∷ ks) w ts r h d = (sym (sees_first (ident k) (spot w.span (ident w.text)) [] ts r h) ∙ d.0, differs_first ks w ts r h d.1)

pub sign_first : (ks : List Text) (k : Sign) (at : Span) (ts r : Stream) → one (spot at (sign k)) ts r → FirstIsNoneOf ks ts
sign_first [] k at ts r h = tt
sign_first (x ∷ ks) k at ts r h = (sees_first (ident x) (spot at (sign k)) [] ts r h, sign_first ks k at ts r h)

pub seen_first : (k : Token) (ks : List Text) (ts : Stream) → Differs k (words_of ks) → sees k ts ≡ true → FirstIsNoneOf ks ts
seen_first k [] ts d h = tt
seen_first k (x ∷ ks) ts d h = (one_seen source k (ident x) ts d.0 h, seen_first k ks ts d.1 h)

one_tail : (m : Mark) (ts r : Stream) → one m ts r → tail ts ≡ r
one_tail m [] r h = absurd h
one_tail m (l ∷ ts) r h = h.1

-- ---- scalar types

module _ (x : Text) (t : FieldType) where
  or_else : {A B C : Type 0} → A ⊎ B → (A → C) → (B → C) → C
  or_else (inl a) f g = f a
  or_else (inr b) f g = g b

  step : (k : Text) (y : FieldType) {rest : Option FieldType} → (if bytes_eq x k then Some y else rest) ≡ Some t → ((x ≡ k) × (y ≡ t)) ⊎ (rest ≡ Some t)
  step k y {rest} e = by (bytes_eq x k) refl e where
    by : (b : Bool) → bytes_eq x k ≡ b → (if b then Some y else rest) ≡ Some t → ((x ≡ k) × (y ≡ t)) ⊎ (rest ≡ Some t)
    by true i e = inl ((bytes_eq-Decides x k).0 i, let is : y ≡ t = cc in is)
    by false i e = inr e

  found : (k : Text) (y : FieldType) → scalar_word y ≡ Some k → (x ≡ k) × (y ≡ t) → scalar_word t ≡ Some x
  found k y e h = ap scalar_word (sym h.1) ∙ e ∙ ap Some (sym h.0)

  not_none : {X : Type 0} → ◌≡◌ {A = Option FieldType} None (Some t) → X
  not_none e = absurd cc

  scalar_to : scalar_of x ≡ Some t → scalar_word t ≡ Some x
  scalar_to e =
      or_else (step (codes "double") types.Double e) (found (codes "double") types.Double refl) (λ e. or_else (step (codes "float") types.Float e) (found (codes "float") types.Float refl) (λ e. or_else (step (codes "int32") types.Int32 e) (found (codes "int32") types.Int32 refl) (λ e. or_else (step (codes "int64") types.Int64 e) (found (codes "int64") types.Int64 refl) (λ e. or_else (step (codes "uint32") types.Uint32 e) (found (codes "uint32") types.Uint32 refl) (λ e. or_else (step (codes "uint64") types.Uint64 e) (found (codes "uint64") types.Uint64 refl) (λ e. or_else (step (codes "sint32") types.Sint32 e) (found (codes "sint32") types.Sint32 refl) (λ e. or_else (step (codes "sint64") types.Sint64 e) (found (codes "sint64") types.Sint64 refl) (λ e. or_else (step (codes "fixed32") types.Fixed32 e) (found (codes "fixed32") types.Fixed32 refl) (λ e. or_else (step (codes "fixed64") types.Fixed64 e) (found (codes "fixed64") types.Fixed64 refl) (λ e. or_else (step (codes "sfixed32") types.Sfixed32 e) (found (codes "sfixed32") types.Sfixed32 refl) (λ e. or_else (step (codes "sfixed64") types.Sfixed64 e) (found (codes "sfixed64") types.Sfixed64 refl) (λ e. or_else (step (codes "bool") types.Bool e) (found (codes "bool") types.Bool refl) (λ e. or_else (step (codes "string") types.String e) (found (codes "string") types.String refl) (λ e. or_else (step (codes "bytes") types.Bytes e) (found (codes "bytes") types.Bytes refl) (λ e. not_none e)))))))))))))))

scalar_from : (t : FieldType) (x : Text) → scalar_word t ≡ Some x → scalar_of x ≡ Some t
scalar_from types.Double x e = let is : codes "double" ≡ x = cc in subst (λ x. scalar_of x ≡ Some types.Double) is refl
scalar_from types.Float x e = let is : codes "float" ≡ x = cc in subst (λ x. scalar_of x ≡ Some types.Float) is refl
scalar_from types.Int32 x e = let is : codes "int32" ≡ x = cc in subst (λ x. scalar_of x ≡ Some types.Int32) is refl
scalar_from types.Int64 x e = let is : codes "int64" ≡ x = cc in subst (λ x. scalar_of x ≡ Some types.Int64) is refl
scalar_from types.Uint32 x e = let is : codes "uint32" ≡ x = cc in subst (λ x. scalar_of x ≡ Some types.Uint32) is refl
scalar_from types.Uint64 x e = let is : codes "uint64" ≡ x = cc in subst (λ x. scalar_of x ≡ Some types.Uint64) is refl
scalar_from types.Sint32 x e = let is : codes "sint32" ≡ x = cc in subst (λ x. scalar_of x ≡ Some types.Sint32) is refl
scalar_from types.Sint64 x e = let is : codes "sint64" ≡ x = cc in subst (λ x. scalar_of x ≡ Some types.Sint64) is refl
scalar_from types.Fixed32 x e = let is : codes "fixed32" ≡ x = cc in subst (λ x. scalar_of x ≡ Some types.Fixed32) is refl
scalar_from types.Fixed64 x e = let is : codes "fixed64" ≡ x = cc in subst (λ x. scalar_of x ≡ Some types.Fixed64) is refl
scalar_from types.Sfixed32 x e = let is : codes "sfixed32" ≡ x = cc in subst (λ x. scalar_of x ≡ Some types.Sfixed32) is refl
scalar_from types.Sfixed64 x e = let is : codes "sfixed64" ≡ x = cc in subst (λ x. scalar_of x ≡ Some types.Sfixed64) is refl
scalar_from types.Bool x e = let is : codes "bool" ≡ x = cc in subst (λ x. scalar_of x ≡ Some types.Bool) is refl
scalar_from types.String x e = let is : codes "string" ≡ x = cc in subst (λ x. scalar_of x ≡ Some types.String) is refl
scalar_from types.Bytes x e = let is : codes "bytes" ≡ x = cc in subst (λ x. scalar_of x ≡ Some types.Bytes) is refl
scalar_from types.Group x e = absurd cc
scalar_from types.Message x e = absurd cc
scalar_from types.Enum x e = absurd cc

module _ (x : Text) where
  none_step : (k : Text) (y : FieldType) {rest : Option FieldType} → (if bytes_eq x k then Some y else rest) ≡ None → (bytes_eq x k ≡ false) × (rest ≡ None)
  none_step k y {rest} e = by (bytes_eq x k) refl e where
    by : (b : Bool) → bytes_eq x k ≡ b → (if b then Some y else rest) ≡ None → (bytes_eq x k ≡ false) × (rest ≡ None)
    by true i e = absurd (let wrong : ◌≡◌ {A = Option FieldType} (Some y) None = e in cc)
    by false i e = (i, e)

  none_back : (k : Text) (y : FieldType) {rest : Option FieldType} → bytes_eq x k ≡ false → rest ≡ None → (if bytes_eq x k then Some y else rest) ≡ None
  none_back k y {rest} e h = ap (λ b. if b then Some y else rest) e ∙ h

  none_differs : scalar_of x ≡ None → AllDiffer scalar_words x
  none_differs e =
      let a0 = none_step (codes "double") types.Double e in
      let a1 = none_step (codes "float") types.Float a0.1 in
      let a2 = none_step (codes "int32") types.Int32 a1.1 in
      let a3 = none_step (codes "int64") types.Int64 a2.1 in
      let a4 = none_step (codes "uint32") types.Uint32 a3.1 in
      let a5 = none_step (codes "uint64") types.Uint64 a4.1 in
      let a6 = none_step (codes "sint32") types.Sint32 a5.1 in
      let a7 = none_step (codes "sint64") types.Sint64 a6.1 in
      let a8 = none_step (codes "fixed32") types.Fixed32 a7.1 in
      let a9 = none_step (codes "fixed64") types.Fixed64 a8.1 in
      let a10 = none_step (codes "sfixed32") types.Sfixed32 a9.1 in
      let a11 = none_step (codes "sfixed64") types.Sfixed64 a10.1 in
      let a12 = none_step (codes "bool") types.Bool a11.1 in
      let a13 = none_step (codes "string") types.String a12.1 in
      let a14 = none_step (codes "bytes") types.Bytes a13.1 in
      (a0.0, (a1.0, (a2.0, (a3.0, (a4.0, (a5.0, (a6.0, (a7.0, (a8.0, (a9.0, (a10.0, (a11.0, (a12.0, (a13.0, (a14.0, tt)))))))))))))))

  differs_none : AllDiffer scalar_words x → scalar_of x ≡ None
  differs_none d =
      none_back (codes "double") types.Double d.0 (none_back (codes "float") types.Float d.1.0 (none_back (codes "int32") types.Int32 d.1.1.0 (none_back (codes "int64") types.Int64 d.1.1.1.0 (none_back (codes "uint32") types.Uint32 d.1.1.1.1.0 (none_back (codes "uint64") types.Uint64 d.1.1.1.1.1.0 (none_back (codes "sint32") types.Sint32 d.1.1.1.1.1.1.0 (none_back (codes "sint64") types.Sint64 d.1.1.1.1.1.1.1.0 (none_back (codes "fixed32") types.Fixed32 d.1.1.1.1.1.1.1.1.0 (none_back (codes "fixed64") types.Fixed64 d.1.1.1.1.1.1.1.1.1.0 (none_back (codes "sfixed32") types.Sfixed32 d.1.1.1.1.1.1.1.1.1.1.0 (none_back (codes "sfixed64") types.Sfixed64 d.1.1.1.1.1.1.1.1.1.1.1.0 (none_back (codes "bool") types.Bool d.1.1.1.1.1.1.1.1.1.1.1.1.0 (none_back (codes "string") types.String d.1.1.1.1.1.1.1.1.1.1.1.1.1.0 (none_back (codes "bytes") types.Bytes d.1.1.1.1.1.1.1.1.1.1.1.1.1.1.0 refl))))))))))))))

-- ---- types

pub ty_ends : (t : Ty) (r : Stream) → sees (sign s.Dot) r ≡ false → TyEnds t r
ty_ends (scalar t at) r h = tt
ty_ends (named n) r h = h

parts_of : (w : Word) (u v : Stream) (o : Outcome (List Word)) → word u ≡ Ok (w, v) → parts_after w v ≡ o → full_ident u ≡ o
unfolding full_ident
parts_of w u v o i e = then_ok parts_after i e

parts_from : (w : Word) (u v : Stream) (o : Outcome (List Word)) → word u ≡ Ok (w, v) → full_ident u ≡ o → parts_after w v ≡ o
unfolding full_ident
parts_from w u v o i e = sym (ap (λ o. and_then o parts_after) i) ∙ e

abbrev TyRead : Stream → Ty × Stream → Type 0
TyRead ts y = a_type y.0 ts y.1 × Unit {0} × TyEnds y.0 y.1

pub rule_ty : {H : Stream → Type 0} → Rule H ty a_type IsAny TyEnds
unfolding ty
rule_ty {H} = record { sound = λ ts r t h e. forth ts r t h e; complete = λ ts r t h k g. back ts r t h g } where
  after : (ts r : Stream) (t : Ty) (o : Option Span) (u : Stream) → if_there (sign s.Dot) o ts u × Unit {0} × Absent (sign s.Dot) o u → (w : Word) (v : Stream) → word u ≡ Ok (w, v) → ty_after o w v ≡ Ok (t, r) → TyRead ts (t, r)
  after ts r t (Some dot) u d w v i e =
      let z = bound (parts_after w v) (λ ps. pure (named_type (Some dot) ps)) (t, r) e in
      let f = (rule_full {H = Always}).sound u z.0.1 z.0.0 tt (parts_of w u v _ i z.1) in
      subst (TyRead ts) (same_ok (named_type (Some dot) z.0.0, z.0.1) (t, r) z.2) ((sign_first scalar_words s.Dot dot ts u d.0, (u, d.0, f.0)), tt, f.2)
  after ts r t None u d w v i e = by (scalar_of w.text) refl e where
    is_word : a_word w ts v
    is_word = subst (λ u. a_word w u v) (sym d.0) ((rule_word {H = Always}).sound u v w tt i).0

    by : (o : Option FieldType) → scalar_of w.text ≡ o → ty_of w o v ≡ Ok (t, r) → TyRead ts (t, r)
    by (Some y) j e = subst (TyRead ts) (same_ok (scalar y w.span, v) (t, r) e) (subst (λ o. a_word_if o w.span ts v) (sym (scalar_to w.text y j)) is_word, tt, tt)
    by None j e =
        let z = bound (parts_after w v) (λ ps. pure (named_type None ps)) (t, r) e in
        let f = (rule_full {H = Always}).sound u z.0.1 z.0.0 tt (parts_of w u v _ i z.1) in
        subst (TyRead ts) (same_ok (named_type None z.0.0, z.0.1) (t, r) z.2) ((first_differs scalar_words w ts v is_word (none_differs w.text j), (u, d.0, f.0)), tt, f.2)

  forth : (ts r : Stream) (t : Ty) → H ts → (eat (sign s.Dot) >>= (λ dot. word >>= ty_after dot)) ts ≡ Ok (t, r) → TyRead ts (t, r)
  forth ts r t h e =
      let x = bound (eat (sign s.Dot) ts) (λ dot. word >>= ty_after dot) (t, r) e in
      let y = bound (word x.0.1) (ty_after x.0.0) (t, r) x.2 in
      after ts r t x.0.0 x.0.1 ((rule_eat (sign s.Dot) refl {H = H}).sound ts x.0.1 x.0.0 h x.1) y.0.0 y.0.1 y.1 y.2

  back_scalar : (ts r : Stream) (t : FieldType) (at : Span) (o : Option Text) → scalar_word t ≡ o → a_word_if o at ts r → (eat (sign s.Dot) >>= (λ dot. word >>= ty_after dot)) ts ≡ Ok (scalar t at, r)
  back_scalar ts r t at None e h = absurd h
  back_scalar ts r t at (Some x) e h =
      let w : Word = record { text = x; span = at } in
      then_ok (λ dot. word >>= ty_after dot) (eat_none (sign s.Dot) ts (word_misses (sign s.Dot) w ts r refl h))
      (then_ok (ty_after None) ((rule_word {H = Always}).complete ts r w h tt tt) (ap (λ o. ty_of w o r) (scalar_from t x e)))

  back_named : (ts r : Stream) (o : Option Span) (ps : List Word) → FirstIsNoneOf scalar_words ts → (u : Stream) → if_there (sign s.Dot) o ts u → full_name ps u r → sees (sign s.Dot) r ≡ false → (eat (sign s.Dot) >>= (λ dot. word >>= ty_after dot)) ts ≡ Ok (named_type o ps, r)
  back_named ts r o [] n u d h g = absurd h
  back_named ts r (Some dot) (w ∷ ws) n u d h g =
      let i = (rule_word {H = Always}).complete u h.0 w h.1 tt tt in
      then_ok (λ dot. word >>= ty_after dot) ((rule_eat (sign s.Dot) refl {H = Always}).complete ts u (Some dot) d tt tt)
      (then_ok (ty_after (Some dot)) i (then_ok (λ ps. pure (named_type (Some dot) ps)) (parts_from w u h.0 _ i ((rule_full {H = Always}).complete u r (w ∷ ws) h tt g)) refl))
  back_named ts r None (w ∷ ws) n u d h g =
      let i = (rule_word {H = Always}).complete u h.0 w h.1 tt tt in
      let differs = differs_first scalar_words w u h.0 h.1 (subst (FirstIsNoneOf scalar_words) d n) in
      then_ok (λ dot. word >>= ty_after dot) ((rule_eat (sign s.Dot) refl {H = Always}).complete ts u None d tt (word_misses (sign s.Dot) w u h.0 refl h.1))
      (then_ok (ty_after None) i (ap (λ o. ty_of w o h.0) (differs_none w.text differs) ∙ then_ok (λ ps. pure (named_type None ps)) (parts_from w u h.0 _ i ((rule_full {H = Always}).complete u r (w ∷ ws) h tt g)) refl))

  back : (ts r : Stream) (t : Ty) → a_type t ts r → TyEnds t r → (eat (sign s.Dot) >>= (λ dot. word >>= ty_after dot)) ts ≡ Ok (t, r)
  back ts r (scalar t at) h g = back_scalar ts r t at (scalar_word t) refl h
  back ts r (named n) h g = back_named ts r n.leading_dot n.parts h.0 h.1.0 h.1.1 h.1.2 g

-- ---- maps

abbrev map_word : Token
map_word = ident (codes "map")

abbrev made_map : Ty → Ty → Span → Span → MapType
made_map k v p q = record { key = k; value = v; span = across p q }

map_is : (k v : Ty) (p q : Span) (m : MapType) → m.key ≡ k → m.value ≡ v → begins m.span p → ends m.span q → made_map k v p q ≡ m
map_is k v p q m a b c d = ap (λ at. record { key = k; value = v; span = at }) (whole m.span p q c d) ∙ rw (← a, ← b) refl

abbrev MapRest : MapType → Language
MapRest m = a_type m.key ▸ (the (sign s.Comma) ▸ (a_type m.value ▸ token_at (sign s.RightAngleBracket) (ends m.span)))

rule_map_type : (p : Span) → Rule Always (map_type p) MapRest (λ m. begins m.span p) Free
unfolding map_type
rule_map_type p = rule_then (λ (m : MapType). m.key) rule_ty (λ m ts r h g. ty_ends m.key ts (begins_misses (sign s.Dot) (sign s.Comma) (λ at. Unit {0}) ts h.0 refl h.1)) (λ k.
    rule_token (sign s.Comma) refl (λ m at. Unit {0}) (λ at.
    rule_then (λ (m : MapType). m.value) rule_ty (λ m ts r h g. ty_ends m.value ts (begins_misses (sign s.Dot) (sign s.RightAngleBracket) (ends m.span) ts r refl h)) (λ v.
    rule_close (sign s.RightAngleBracket) refl (made_map k v p) (λ (m : MapType). ends m.span) (λ q. (refl, (refl, (tt, (refl, refl))))) (λ m q e x. map_is k v p q m x.1.1.0 x.0 x.1.1.1 e))))

-- a type that is called `map` goes on with an opening bracket
abbrev MapAlone : Option Span → List Word → Stream → Type 0
MapAlone None (w ∷ []) r = w.text ≡ codes "map" → sees (sign s.LeftAngleBracket) r ≡ false
MapAlone None [] r = Unit {0}
MapAlone None (w ∷ v ∷ ws) r = Unit {0}
MapAlone (Some dot) ws r = Unit {0}

abbrev MapEnds : Ty → Stream → Type 0
MapEnds (scalar t at) r = Unit {0}
MapEnds (named n) r = MapAlone n.leading_dot n.parts r

abbrev pub KindEnds : Kind → Stream → Type 0
KindEnds (normal t) r = TyEnds t r × MapEnds t r
KindEnds (map_kind m) r = Unit {0}
KindEnds (group g) r = Unit {0}

map_alone : (o : Option Span) (ps : List Word) (r : Stream) → sees (sign s.LeftAngleBracket) r ≡ false → MapAlone o ps r
map_alone None [] r h = tt
map_alone None (w ∷ []) r h = λ e. h
map_alone None (w ∷ v ∷ ws) r h = tt
map_alone (Some dot) ws r h = tt

pub kind_ends : (k : Kind) (r : Stream) → sees (sign s.Dot) r ≡ false → sees (sign s.LeftAngleBracket) r ≡ false → KindEnds k r
kind_ends (normal (scalar t at)) r d h = (tt, tt)
kind_ends (normal (named n)) r d h = (d, map_alone n.leading_dot n.parts r h)
kind_ends (map_kind m) r d h = tt
kind_ends (group g) r d h = tt

word_seen : (k : Text) (w : Word) (ts r : Stream) → a_word w ts r → sees (ident k) ts ≡ true → w.text ≡ k
word_seen k w ts r h e = (bytes_eq-Decides w.text k).0 (sym (sees_first (ident k) (spot w.span (ident w.text)) [] ts r h) ∙ e)

sees_word : (k : Text) (w : Word) (ts r : Stream) → a_word w ts r → w.text ≡ k → sees (ident k) ts ≡ true
sees_word k w ts r h e = sees_first (ident k) (spot w.span (ident w.text)) [] ts r h ∙ (bytes_eq-Decides w.text k).1 e

abbrev KindRead : Stream → Kind × Stream → Type 0
KindRead ts y = a_kind y.0 ts y.1 × Unit {0} × KindEnds y.0 y.1

abbrev by_bracket : Word → Parser Kind
by_bracket w = eat (sign s.LeftAngleBracket) >>= map_by w

-- where the word `map` comes first
map_sound : (ts r : Stream) (k : Kind) → sees map_word ts ≡ true → map_or_name ts ≡ Ok (k, r) → KindRead ts (k, r)
unfolding map_or_name
map_sound ts r k seen e =
    let x = bound (word ts) by_bracket (k, r) e in
    let y = bound (eat (sign s.LeftAngleBracket) x.0.1) (map_by x.0.0) (k, r) x.2 in
    by x.0.0 x.0.1 x.1 ((rule_word {H = Always}).sound ts x.0.1 x.0.0 tt x.1).0 y.0.0 y.0.1 ((rule_eat (sign s.LeftAngleBracket) refl {H = Always}).sound x.0.1 y.0.1 y.0.0 tt y.1) y.2 where
      alone : (u : Stream) (ps : List Word) (v : Stream) → tail ts ≡ u → sees (sign s.LeftAngleBracket) u ≡ false → full_name ps ts v → MapAlone None ps v
      alone u [] v t n h = tt
      alone u (w ∷ []) v t n h = λ e. subst (λ u. sees (sign s.LeftAngleBracket) u ≡ false) (sym t ∙ one_tail (spot w.span (ident w.text)) ts h.0 h.1 ∙ h.2) n
      alone u (w ∷ x ∷ ws) v t n h = tt

      by : (w : Word) (u : Stream) → word ts ≡ Ok (w, u) → a_word w ts u → (o : Option Span) (v : Stream) → if_there (sign s.LeftAngleBracket) o u v × Unit {0} × Absent (sign s.LeftAngleBracket) o v → map_by w o v ≡ Ok (k, r) → KindRead ts (k, r)
      by w u i h (Some b) v d e =
          let z = bound (map_type w.span v) (λ m. pure (map_kind m)) (k, r) e in
          let f = (rule_map_type w.span).sound v z.0.1 z.0.0 tt z.1 in
          subst (KindRead ts) (same_ok (map_kind z.0.0, z.0.1) (k, r) z.2)
          ((u, (w.span, subst (λ x. one (spot w.span (ident x)) ts u) (word_seen (codes "map") w ts u h seen) h, f.1), (v, (b, d.0, tt), f.0)), tt, tt)
      by w u i h None v d e =
          let z = bound (parts_after w v) (λ ps. pure (normal (named_type None ps))) (k, r) e in
          let f = (rule_full {H = Always}).sound ts z.0.1 z.0.0 tt (parts_of w ts v _ (i ∙ ap (λ s. Ok (w, s)) d.0) z.1) in
          subst (KindRead ts) (same_ok (normal (named_type None z.0.0), z.0.1) (k, r) z.2)
          ((seen_first map_word scalar_words ts (refl, (refl, (refl, (refl, (refl, (refl, (refl, (refl, (refl, (refl, (refl, (refl, (refl, (refl, (refl, tt))))))))))))))) seen, (ts, refl, f.0)), tt, (f.2, alone v z.0.0 z.0.1 (one_tail (spot w.span (ident w.text)) ts u h ∙ d.0) d.2 f.0))

-- where another word or a dot comes first
ty_not_map : (t : Ty) (ts r : Stream) → sees map_word ts ≡ false → a_type t ts r → MapEnds t r
ty_not_map (scalar t at) ts r n h = tt
ty_not_map (named m) ts r n h = by m.leading_dot m.parts h.1.0 h.1.1 h.1.2 where
  by : (o : Option Span) (ps : List Word) (u : Stream) → if_there (sign s.Dot) o ts u → full_name ps u r → MapAlone o ps r
  by None [] u d h = tt
  by None (w ∷ []) u d h = λ e. absurd (let wrong : true ≡ false = sym (sees_word (codes "map") w ts h.0 (subst (λ u. a_word w u h.0) (sym d) h.1) e) ∙ n in cc)
  by None (w ∷ v ∷ ws) u d h = tt
  by (Some dot) ws u d h = tt

no_map_scalar : (t : FieldType) (at : Span) (o : Option Text) (ts r : Stream) → scalar_word t ≡ o → a_word_if o at ts r → sees map_word ts ≡ true → ⊥
no_map_scalar t at None ts r e h seen = h
no_map_scalar t at (Some x) ts r e h seen =
    let same_text = word_seen (codes "map") (record { text = x; span = at }) ts r h seen in
    let wrong : ◌≡◌ {A = Option FieldType} None (Some t) = scalar_from t (codes "map") (e ∙ ap Some same_text) in cc

-- a type whose first word is `map`
map_complete : (t : Ty) (ts r : Stream) → sees map_word ts ≡ true → a_type t ts r → TyEnds t r → MapEnds t r → map_or_name ts ≡ Ok (normal t, r)
unfolding map_or_name
map_complete (scalar t at) ts r seen h g m = absurd (no_map_scalar t at (scalar_word t) ts r refl h seen)
map_complete (named n) ts r seen h g m = by n.leading_dot n.parts h.1.0 h.1.1 h.1.2 g m where
  no_bracket : (w : Word) (ws : List Word) (v : Stream) → w.text ≡ codes "map" → each (λ y. the (sign s.Dot) ▸ a_word y) ws v r → MapAlone None (w ∷ ws) r → sees (sign s.LeftAngleBracket) v ≡ false
  no_bracket w [] v e h m = subst (λ v. sees (sign s.LeftAngleBracket) v ≡ false) (sym h) (m e)
  no_bracket w (x ∷ ws) v e h m = begins_misses (sign s.LeftAngleBracket) (sign s.Dot) (λ at. Unit {0}) v h.1.0 refl h.1.1

  by : (o : Option Span) (ps : List Word) (u : Stream) → if_there (sign s.Dot) o ts u → full_name ps u r → sees (sign s.Dot) r ≡ false → MapAlone o ps r → (word >>= by_bracket) ts ≡ Ok (normal (named_type o ps), r)
  by o [] u d h g m = absurd h
  by (Some dot) (w ∷ ws) u d h g m = absurd (let wrong : true ≡ false = sym seen ∙ sees_first map_word (spot dot (sign s.Dot)) [] ts u d in cc)
  by None (w ∷ ws) u d h g m =
      let f = subst (λ u. full_name (w ∷ ws) u r) (sym d) h in
      let i = (rule_word {H = Always}).complete ts f.0 w f.1 tt tt in
      then_ok by_bracket i (then_ok (map_by w) (eat_none (sign s.LeftAngleBracket) f.0 (no_bracket w ws f.0 (word_seen (codes "map") w ts f.0 f.1 seen) f.2 m))
      (then_ok (λ ps. pure (normal (named_type None ps))) (parts_from w ts f.0 _ i ((rule_full {H = Always}).complete ts r (w ∷ ws) f tt g)) refl))

real_map : (m : MapType) (ts r : Stream) → a_map m ts r → map_or_name ts ≡ Ok (map_kind m, r)
unfolding map_or_name
real_map m ts r h =
    let w : Word = record { text = codes "map"; span = h.1.0 } in
    then_ok by_bracket ((rule_word {H = Always}).complete ts h.0 w h.1.1 tt tt)
    (then_ok (map_by w) ((rule_eat (sign s.LeftAngleBracket) refl {H = Always}).complete h.0 h.2.0 (Some h.2.1.0) h.2.1.1 tt tt)
    (then_ok (λ m. pure (map_kind m)) ((rule_map_type h.1.0).complete h.2.0 r m h.2.2 h.1.2 tt) refl))

pub rule_kind : {H : Stream → Type 0} → Rule H field_type a_kind IsAny KindEnds
unfolding field_type
rule_kind {H} = record { sound = λ ts r k h e. forth ts r k (sees map_word ts) refl e; complete = λ ts r k h x g. back ts r k h g } where
  forth : (ts r : Stream) (k : Kind) (b : Bool) → sees map_word ts ≡ b → (if b then map_or_name ts else (normal <$> ty) ts) ≡ Ok (k, r) → KindRead ts (k, r)
  forth ts r k true seen e = map_sound ts r k seen e
  forth ts r k false seen e =
      let z = bound (ty ts) (λ t. pure (normal t)) (k, r) e in
      let f = (rule_ty {H = Always}).sound ts z.0.1 z.0.0 tt z.1 in
      subst (KindRead ts) (same_ok (normal z.0.0, z.0.1) (k, r) z.2) (f.0, tt, (f.2, ty_not_map z.0.0 ts z.0.1 seen f.0))

  either : (ts r : Stream) (t : Ty) (b : Bool) → sees map_word ts ≡ b → a_type t ts r → TyEnds t r → MapEnds t r → (if b then map_or_name ts else (normal <$> ty) ts) ≡ Ok (normal t, r)
  either ts r t true seen h g m = map_complete t ts r seen h g m
  either ts r t false seen h g m = then_ok (λ t. pure (normal t)) ((rule_ty {H = Always}).complete ts r t h tt g) refl

  back : (ts r : Stream) (k : Kind) → a_kind k ts r → KindEnds k r → (if sees map_word ts then map_or_name ts else (normal <$> ty) ts) ≡ Ok (k, r)
  back ts r (normal t) h g = either ts r t (sees map_word ts) refl h g.0 g.1
  back ts r (map_kind m) h g = ap (λ b. if b then map_or_name ts else (normal <$> ty) ts) (first_is map_word map_word (begins m.span) ts h.0 h.1) ∙ real_map m ts r h
  back ts r (group x) h g = absurd h

-- ---- labels

-- a token that stands for a value by itself, where what holds of the input is passed on
pub rule_or : {B : Type 0} (k : Token) → IsNamed k → (e : Span → B) (f : Option Span → Parser B) {H : Stream → Type 0} {M : B → Language} {G : B → Stream → Type 0} → ((at : Span) → f (Some at) ≡ pure (e at)) → ((at : Span) (r : Stream) → G (e at) r)
    → Rule (λ ts. H ts × (sees k ts ≡ false)) (f None) M IsAny G → ((b : B) (ts r : Stream) → M b ts r → G b r → sees k ts ≡ false) → Rule H (eat k >>= f) (λ b ts r. token_at k (λ at. b ≡ e at) ts r ⊎ M b ts r) IsAny G
rule_or {B = B} k is_named e f {H = H} {M = M} {G = G} alone told other tails = record { sound = λ ts r b h i. let x = bound (eat k ts) f (b, r) i in by ts r b h x.0.0 x.0.1 ((rule_eat k is_named {H = H}).sound ts x.0.1 x.0.0 h x.1) x.2; complete = λ ts r b h y g. back ts r b h g } where
  by : (ts r : Stream) (b : B) → H ts → (o : Option Span) (u : Stream) → if_there k o ts u × Unit {0} × Absent k o u → f o u ≡ Ok (b, r) → (token_at k (λ at. b ≡ e at) ts r ⊎ M b ts r) × Unit {0} × G b r
  by ts r b h (Some at) u x i = subst (λ (y : B × Stream). (token_at k (λ at. y.0 ≡ e at) ts y.1 ⊎ M y.0 ts y.1) × Unit {0} × G y.0 y.1) (same_ok (e at, u) (b, r) (sym (ap (λ p. p u) (alone at)) ∙ i)) (inl (at, x.0, refl), tt, told at u)
  by ts r b h None u x i = let y = other.sound u r b (subst H x.0 h, x.2) i in (inr (subst (λ t. M b t r) (sym x.0) y.0), tt, y.2)

  back : (ts r : Stream) (b : B) → token_at k (λ at. b ≡ e at) ts r ⊎ M b ts r → G b r → (eat k >>= f) ts ≡ Ok (b, r)
  back ts r b (inl h) g = then_ok f ((rule_eat k is_named {H = H}).complete ts r (Some h.0) h.1 tt tt) (ap (λ p. p r) (alone h.0) ∙ ap (λ b. Ok (b, r)) (sym h.2))
  back ts r b (inr h) g = then_ok f (eat_none k ts (tails b ts r h g)) (other.complete ts r b h tt g)

abbrev pub LabelEnds : Labelled → Stream → Type 0
LabelEnds l r = FirstIsNoneOf (label_words l) r

abbrev Unlabelled : Labelled → Language
Unlabelled l ts r = (l ≡ None) × (ts ≡ r)

rule_unlabelled : Rule (λ ts. ((Unit {0} × (sees (ident (codes "optional")) ts ≡ false)) × (sees (ident (codes "required")) ts ≡ false)) × (sees (ident (codes "repeated")) ts ≡ false)) (repeated_if None) Unlabelled IsAny LabelEnds
rule_unlabelled = record {
  sound = λ ts r l h e. subst (λ (y : Labelled × Stream). Unlabelled y.0 ts y.1 × Unit {0} × LabelEnds y.0 y.1) (same_ok (None, ts) (l, r) e) ((refl, refl), tt, (h.0.0.1, (h.0.1, (h.1, tt))));
  complete = λ ts r l h k f. ap (λ x. Ok (x, ts)) (sym h.0) ∙ ap (λ s. Ok (l, s)) h.1;
}

unlabelled_ends : (l : Labelled) (ts r : Stream) → Unlabelled l ts r → LabelEnds l r → LabelEnds None ts
unlabelled_ends l ts r h g = subst (LabelEnds None) (sym h.1) (subst (λ l. LabelEnds l r) h.0 g)

abbrev label_at : Label → Span → Labelled
label_at l at = Some (l, at)

abbrev Worded : Text → Label → Labelled → Language
Worded x l o = token_at (ident x) (λ at. o ≡ label_at l at)

rule_repeated : Rule (λ ts. (Unit {0} × (sees (ident (codes "optional")) ts ≡ false)) × (sees (ident (codes "required")) ts ≡ false)) (required_if None) (λ l ts r. Worded (codes "repeated") labels.Repeated l ts r ⊎ Unlabelled l ts r) IsAny LabelEnds
rule_repeated = rule_or (ident (codes "repeated")) refl (label_at labels.Repeated) repeated_if (λ at. refl) (λ at r. tt) rule_unlabelled (λ l ts r h g. (unlabelled_ends l ts r h g).1.1.0)

not_word : (k x : Text) (l : Label) (o : Labelled) (ts r : Stream) → same (ident x) (ident k) ≡ false → Worded x l o ts r → sees (ident k) ts ≡ false
not_word k x l o ts r e h = sees_first (ident k) (spot h.0 (ident x)) [] ts r h.1 ∙ e

rule_required : Rule (λ ts. Unit {0} × (sees (ident (codes "optional")) ts ≡ false)) (optional_if None) (λ l ts r. Worded (codes "required") labels.Required l ts r ⊎ (Worded (codes "repeated") labels.Repeated l ts r ⊎ Unlabelled l ts r)) IsAny LabelEnds
rule_required = rule_or (ident (codes "required")) refl (label_at labels.Required) required_if (λ at. refl) (λ at r. tt) rule_repeated tails where
  tails : (l : Labelled) (ts r : Stream) → Worded (codes "repeated") labels.Repeated l ts r ⊎ Unlabelled l ts r → LabelEnds l r → sees (ident (codes "required")) ts ≡ false
  tails l ts r (inl h) g = not_word (codes "required") (codes "repeated") labels.Repeated l ts r refl h
  tails l ts r (inr h) g = (unlabelled_ends l ts r h g).1.0

abbrev Labels : Labelled → Language
Labels l ts r = Worded (codes "optional") labels.Optional l ts r ⊎ (Worded (codes "required") labels.Required l ts r ⊎ (Worded (codes "repeated") labels.Repeated l ts r ⊎ Unlabelled l ts r))

label_to : (l : Labelled) (ts r : Stream) → Labels l ts r → a_label l ts r
label_to l ts r (inl h) = subst (λ l. a_label l ts r) (sym h.2) h.1
label_to l ts r (inr (inl h)) = subst (λ l. a_label l ts r) (sym h.2) h.1
label_to l ts r (inr (inr (inl h))) = subst (λ l. a_label l ts r) (sym h.2) h.1
label_to l ts r (inr (inr (inr h))) = subst (λ l. a_label l ts r) (sym h.0) h.1

label_from : (l : Labelled) (ts r : Stream) → a_label l ts r → Labels l ts r
label_from None ts r h = inr (inr (inr (refl, h)))
label_from (Some (labels.Optional, at)) ts r h = inl (at, h, refl)
label_from (Some (labels.Required, at)) ts r h = inr (inl (at, h, refl))
label_from (Some (labels.Repeated, at)) ts r h = inr (inr (inl (at, h, refl)))

pub rule_label : Rule Always label a_label IsAny LabelEnds
unfolding label
rule_label = rule_as (rule_or (ident (codes "optional")) refl (label_at labels.Optional) optional_if (λ at. refl) (λ at r. tt) rule_required tails) (λ l ts r h f. (label_to l ts r h, f)) (λ l ts r h f. (label_from l ts r h, f)) where
  tails : (l : Labelled) (ts r : Stream) → Worded (codes "required") labels.Required l ts r ⊎ (Worded (codes "repeated") labels.Repeated l ts r ⊎ Unlabelled l ts r) → LabelEnds l r → sees (ident (codes "optional")) ts ≡ false
  tails l ts r (inl h) g = not_word (codes "optional") (codes "required") labels.Required l ts r refl h
  tails l ts r (inr (inl h)) g = not_word (codes "optional") (codes "repeated") labels.Repeated l ts r refl h
  tails l ts r (inr (inr h)) g = (unlabelled_ends l ts r h g).0

-- ---- fields

abbrev pub label_in : Field → Labelled
label_in (field l k n i os at) = l

abbrev pub kind_in : Field → Kind
kind_in (field l k n i os at) = k

abbrev pub name_in : Field → Word
name_in (field l k n i os at) = n

abbrev pub number_in : Field → Int
number_in (field l k n i os at) = i

abbrev pub options_in : Field → Option OptionList
options_in (field l k n i os at) = os

abbrev pub span_in : Field → Span
span_in (field l k n i os at) = at

made_field : (p q : Span) (l : Labelled) (k : Kind) (n : Word) (i : Int) (os : Option OptionList) (f : Field) → label_in f ≡ l → kind_in f ≡ k → name_in f ≡ n → number_in f ≡ i → options_in f ≡ os → begins (span_in f) p → ends (span_in f) q → field l k n i os (across p q) ≡ f
made_field p q l k n i os (field m j o h ps at) a b c d e f g = ap (λ at. field l k n i os at) (whole at p q f g) ∙ rw (← a, ← b, ← c, ← d, ← e) refl

abbrev PlainRest : Field → Language
PlainRest f = a_numbered (name_in f) (number_in f) (options_in f) (token_at (sign s.Semicolon) (ends (span_in f)))

name_ends : (k : Kind) (w : Word) (ts r : Stream) → a_word w ts r → KindEnds k ts
name_ends k w ts r h = kind_ends k ts (word_misses (sign s.Dot) w ts r refl h) (word_misses (sign s.LeftAngleBracket) w ts r refl h)

pub rule_plain : (p : Span) (l : Labelled) {H : Stream → Type 0} → Rule H (plain_field p l) (λ f. a_kind (kind_in f) ▸ PlainRest f) (λ f. (label_in f ≡ l) × begins (span_in f) p) Free
unfolding plain_field
rule_plain p l = rule_then kind_in rule_kind (λ f ts r h g. name_ends (kind_in f) (name_in f) ts h.0 h.1) (λ k.
    rule_then name_in rule_word (λ f ts r h g. tt) (λ n.
    rule_token (sign s.Equals) refl (λ f at. Unit {0}) (λ at.
    rule_then number_in rule_int (λ f ts r h g. tt) (λ i.
    rule_then options_in rule_options (λ f ts r h g. bracket_or (options_in f) (ends (span_in f)) ts r h) (λ os.
    rule_close (sign s.Semicolon) refl (λ q. field l k n i os (across p q)) (λ f. ends (span_in f)) (λ q. (refl, (refl, (refl, (tt, (refl, (refl, (refl, refl))))))))
    (λ f q e x. made_field p q l k n i os f x.1.1.1.1.1.0 x.1.1.1.1.0 x.1.1.1.0 x.1.0 x.0 x.1.1.1.1.1.1 e))))))

-- ---- extensions

abbrev extensions_of : Span → List ReservedRange → Option OptionList → Span → Extensions
extensions_of p rs os q = record { ranges = rs; options = os; span = across p q }

bracket_ends : (o : Option OptionList) (xs : List ReservedRange) (P : Span → Type 0) (ts u r : Stream) → options o ts u → token_at (sign s.Semicolon) P u r → ListEnds NoEnd xs ts
bracket_ends None xs P ts u r h c = subst (ListEnds NoEnd xs) (sym h) (begins_misses (sign s.Comma) (sign s.Semicolon) P u r refl c, lastly_all NoEnd xs u (λ x. no_to x.end u (begins_misses (ident (codes "to")) (sign s.Semicolon) P u r refl c)))
bracket_ends (Some o) xs P ts u r h c = (begins_misses (sign s.Comma) (sign s.LeftBracket) (begins o.span) ts h.0 refl h.1, lastly_all NoEnd xs ts (λ x. no_to x.end ts (begins_misses (ident (codes "to")) (sign s.LeftBracket) (begins o.span) ts h.0 refl h.1)))

made_extensions : (p q : Span) (rs : List ReservedRange) (os : Option OptionList) (x : Extensions) → x.ranges ≡ rs → x.options ≡ os → begins x.span p → ends x.span q → extensions_of p rs os q ≡ x
made_extensions p q rs os x a b c d = ap (λ at. record { ranges = rs; options = os; span = at }) (whole x.span p q c d) ∙ rw (← a, ← b) refl

pub rule_extensions : {H : Stream → Type 0} → Rule H extensions an_extensions IsAny Free
unfolding extensions
rule_extensions = rule_token (ident (codes "extensions")) refl (λ (x : Extensions). begins x.span) (λ p.
    rule_then (λ (x : Extensions). x.ranges) rule_ranges (λ x ts r h g. bracket_ends x.options x.ranges (ends x.span) ts h.0 r h.1 h.2) (λ rs.
    rule_then (λ (x : Extensions). x.options) rule_options (λ x ts r h g. bracket_or x.options (ends x.span) ts r h) (λ os.
    rule_close (sign s.Semicolon) refl (extensions_of p rs os) (λ (x : Extensions). ends x.span) (λ q. (refl, (refl, (refl, (refl, tt))))) (λ x q e k. made_extensions p q rs os x k.1.0 k.0 k.1.1.0 e))))
