-- Fields, and values of a list, one behind the other.
use Rattle.std.proofs.Common.{◌≡◌, List, Option, Some, None, refl, sym, ap, subst, ◌∙◌}
use Rattle.std.specs.Option.{unwrap_or}
use Rattle.protox_lex.specs.declared.span.Span.{Span}
use Rattle.text_lex.specs.Token.{Lexeme}
use Rattle.text_model.specs.Tree.{Value, Values, no_values, more_values, Fields, no_fields, more_fields, append}
use Rattle.text_scalars.specs.Front.{behind, sign_bytes}
use Rattle.text_syntax.specs.Beginning.{BeginWith}
use Rattle.text_syntax.specs.Syntax.{Inner, OneField, Read, field_at, fields_at, fields_by, more_at, more_by, then, value_at, values_by}

-- ---- fields

abbrev pub one : OneField → Fields
one f = more_fields f.name f.given f.separator no_fields

-- fields, and behind them those that are read
abbrev pub continued : Fields → Read Fields → Read Fields
continued done (Some p) = Some (append done p.0, p.1)
continued done None = None

as_continued : (f : OneField) (r : Read Fields)
    → then r (λ fs last. Some (more_fields f.name f.given f.separator fs, last)) ≡ continued (one f) r
as_continued f (Some p) = refl
as_continued f None = refl

nothing_before : (r : Read Fields) → continued no_fields r ≡ r
nothing_before (Some p) = refl
nothing_before None = refl

one_before : (f : OneField) (fs : Fields) (r : Read Fields)
    → continued (one f) (continued fs r) ≡ continued (more_fields f.name f.given f.separator fs) r
one_before f fs (Some p) = refl
one_before f fs None = refl

append_none : (fs : Fields) → append fs no_fields ≡ fs
append_none no_fields = refl
append_none (more_fields name given s fs) = ap (more_fields name given s) (append_none fs)

-- fields are read one behind the other
abbrev pub FieldByField : (List Lexeme → Option (List Lexeme)) → Inner → Type 0
FieldByField ends inner = (ls : List Lexeme)
    → fields_at ends inner ls ≡ fields_by inner (fields_at ends inner) ls (ends ls)

module _ (ends : List Lexeme → Option (List Lexeme)) (inner : Inner) (steps : FieldByField ends inner) where
  here : (ls : List Lexeme) (o : Option (List Lexeme)) → ends ls ≡ o
      → fields_at ends inner ls ≡ fields_by inner (fields_at ends inner) ls o
  here ls o e = steps ls ∙ ap (fields_by inner (fields_at ends inner) ls) e

  behind_field : (r : Read OneField) → Read Fields
  behind_field r =
      then r (λ f rest.
      then (fields_at ends inner rest) (λ fs last. Some (more_fields f.name f.given f.separator fs, last)))

  -- they end
  pub fields_over : (ls end : List Lexeme) → ends ls ≡ Some end
      → fields_at ends inner ls ≡ Some (no_fields, end)
  fields_over ls end e = here ls (Some end) e

  -- a further one
  pub fields_on : (ls mid : List Lexeme) (f : OneField) → ends ls ≡ None
      → field_at inner ls ≡ Some (f, mid)
      → fields_at ends inner ls ≡ continued (one f) (fields_at ends inner mid)
  unfolding behind_field
  fields_on ls mid f e h =
      here ls None e ∙ ap behind_field h ∙ as_continued f (fields_at ends inner mid)

  -- none, where they do not end
  pub fields_stop : (ls : List Lexeme) → ends ls ≡ None → field_at inner ls ≡ None
      → fields_at ends inner ls ≡ None
  unfolding behind_field
  fields_stop ls e h = here ls None e ∙ ap behind_field h

  pub begin_continues : (done : Fields) (ls rest : List Lexeme) → BeginWith ends inner ls done rest
      → fields_at ends inner ls ≡ continued done (fields_at ends inner rest)
  begin_continues no_fields ls rest h =
      ap (fields_at ends inner) (sym h) ∙ sym (nothing_before (fields_at ends inner rest))
  begin_continues (more_fields name given s fs) ls rest h =
      let f : OneField = record { name = name; given = given; separator = s } in
      fields_on ls h.1 f h.0 h.2 ∙ ap (continued (one f)) (begin_continues fs h.1 rest h.3)
      ∙ one_before f fs (fields_at ends inner rest)

  -- all of them
  pub all_read : (done : Fields) (ls mid end : List Lexeme) → BeginWith ends inner ls done mid
      → ends mid ≡ Some end → fields_at ends inner ls ≡ Some (done, end)
  all_read done ls mid end h e =
      begin_continues done ls mid h ∙ ap (continued done) (fields_over mid end e)
      ∙ ap (λ fs. let it : Read Fields = Some (fs, end) in it) (append_none done)

  pub begin_on : (done : Fields) (ls mid next : List Lexeme) (f : OneField)
      → BeginWith ends inner ls done mid → ends mid ≡ None → field_at inner mid ≡ Some (f, next)
      → BeginWith ends inner ls (append done (one f)) next
  begin_on no_fields ls mid next f h e k =
      subst (λ ls. BeginWith ends inner ls (one f) next) h (e, next, k, refl)
  begin_on (more_fields name given s fs) ls mid next f h e k =
      (h.0, h.1, h.2, begin_on fs h.1 mid next f h.3 e k)

  -- what is read behind those that were
  pub record Behind (done : Fields) (mid rest : List Lexeme) (fs : Fields) : Type 0 where
    pub more : Fields
    pub there : fields_at ends inner mid ≡ Some (more, rest)
    pub same : append done more ≡ fs

  pub behind_begun : (done : Fields) (ls mid rest : List Lexeme) (fs : Fields)
      → BeginWith ends inner ls done mid → fields_at ends inner ls ≡ Some (fs, rest)
      → Behind done mid rest fs
  behind_begun done ls mid rest fs h k = by (fields_at ends inner mid) refl where
    by : (r : Read Fields) → fields_at ends inner mid ≡ r → Behind done mid rest fs
    by None e = absurd (cc (sym k ∙ begin_continues done ls mid h ∙ ap (continued done) e))
    by (Some p) e =
        let all : ◌≡◌ {A = Read Fields} (Some (append done p.0, p.1)) (Some (fs, rest)) =
        sym (begin_continues done ls mid h ∙ ap (continued done) e) ∙ k in
        let q = ap (λ (o : Read Fields). unwrap_or o (fs, rest)) all in
        record {
          more = p.0;
          there = e ∙ ap (λ r. let it : Read Fields = Some (p.0, r) in it) (ap (λ x. x.1) q);
          same = ap (λ x. x.0) q;
        }

  -- the first of fields
  pub record First (mid : List Lexeme) (fs : Fields) : Type 0 where
    pub field : OneField
    pub next : List Lexeme
    pub others : Fields
    pub there : field_at inner mid ≡ Some (field, next)
    pub same : more_fields field.name field.given field.separator others ≡ fs

  pub first_of : (mid rest : List Lexeme) (fs : Fields) → ends mid ≡ None
      → fields_at ends inner mid ≡ Some (fs, rest) → First mid fs
  first_of mid rest fs e h = by (field_at inner mid) refl where
    by : (r : Read OneField) → field_at inner mid ≡ r → First mid fs
    by None k = absurd (cc (sym h ∙ fields_stop mid e k))
    by (Some p) k = more (fields_at ends inner p.1) refl where
      more : (r : Read Fields) → fields_at ends inner p.1 ≡ r → First mid fs
      more None l = absurd (cc (sym h ∙ fields_on mid p.1 p.0 e k ∙ ap (continued (one p.0)) l))
      more (Some q) l =
          let all : ◌≡◌ {A = Read Fields} (Some (append (one p.0) q.0, q.1)) (Some (fs, rest)) =
          sym (fields_on mid p.1 p.0 e k ∙ ap (continued (one p.0)) l) ∙ h in
          record {
            field = p.0;
            next = p.1;
            others = q.0;
            there = k;
            same = ap (λ (o : Read Fields). (unwrap_or o (fs, rest)).0) all;
          }

-- ---- values

abbrev pub joined : Values → Values → Values
joined no_values ws = ws
joined (more_values v vs) ws = more_values v (joined vs ws)

-- values, and behind them those that are read
abbrev pub listed_on : Values → Read Values → Read Values
listed_on done (Some p) = Some (joined done p.0, p.1)
listed_on done None = None

one_listed : (v : Value) (r : Read Values)
    → then r (λ vs last. Some (more_values v vs, last)) ≡ listed_on (more_values v no_values) r
one_listed v (Some p) = refl
one_listed v None = refl

joined_all : (vs us ws : Values) → joined vs (joined us ws) ≡ joined (joined vs us) ws
joined_all no_values us ws = refl
joined_all (more_values v vs) us ws = ap (more_values v) (joined_all vs us ws)

pub listed_twice : (done more : Values) (r : Read Values)
    → listed_on done (listed_on more r) ≡ listed_on (joined done more) r
listed_twice done more (Some p) =
    ap (λ vs. let it : Read Values = Some (vs, p.1) in it) (joined_all done more p.0)
listed_twice done more None = refl

-- before the first
pub none_listed : (r : Read Values) → r ≡ listed_on no_values r
none_listed (Some p) = refl
none_listed None = refl

-- values are read one behind the other
abbrev pub ValueByValue : Inner → Type 0
ValueByValue inner = (ls : List Lexeme)
    → more_at inner ls ≡ more_by inner (more_at inner) ls (sign_bytes 93 ls) (sign_bytes 44 ls)

module _ (inner : Inner) (steps : ValueByValue inner) where
  -- values from here on
  abbrev pub from : List Lexeme → Read Values
  from ls = values_by inner (more_at inner) ls

  behind_value : (r : Read Value) → Read Values
  behind_value r = then r (λ v rest.
      then (more_at inner rest) (λ vs last. Some (more_values v vs, last)))

  value_first : (ls mid : List Lexeme) (v : Value) → value_at inner ls ≡ Some (v, mid)
      → from ls ≡ listed_on (more_values v no_values) (more_at inner mid)
  unfolding behind_value
  value_first ls mid v h = ap behind_value h ∙ one_listed v (more_at inner mid)

  -- the last one
  pub values_over : (ls mid : List Lexeme) (v : Value) (s : Span) → value_at inner ls ≡ Some (v, mid)
      → sign_bytes 93 mid ≡ Some s → from ls ≡ Some (more_values v no_values, behind mid)
  values_over ls mid v s h e =
      value_first ls mid v h ∙ ap (listed_on (more_values v no_values)) (steps mid
      ∙ ap (λ o. more_by inner (more_at inner) mid o (sign_bytes 44 mid)) e)

  -- a further one
  pub values_next : (ls mid : List Lexeme) (v : Value) (s : Span) → value_at inner ls ≡ Some (v, mid)
      → sign_bytes 93 mid ≡ None → sign_bytes 44 mid ≡ Some s
      → from ls ≡ listed_on (more_values v no_values) (from (behind mid))
  values_next ls mid v s h e f =
      value_first ls mid v h ∙ ap (listed_on (more_values v no_values)) (steps mid
      ∙ ap (λ o. more_by inner (more_at inner) mid o (sign_bytes 44 mid)) e
      ∙ ap (more_by inner (more_at inner) mid None) f)

  -- neither
  pub values_stop : (ls mid : List Lexeme) (v : Value) → value_at inner ls ≡ Some (v, mid)
      → sign_bytes 93 mid ≡ None → sign_bytes 44 mid ≡ None → from ls ≡ None
  values_stop ls mid v h e f =
      value_first ls mid v h ∙ ap (listed_on (more_values v no_values)) (steps mid
      ∙ ap (λ o. more_by inner (more_at inner) mid o (sign_bytes 44 mid)) e
      ∙ ap (more_by inner (more_at inner) mid None) f)

-- what is read behind values that were
pub record BehindValues (done : Values) (r : Read Values) (rest : List Lexeme) (vs : Values)
    : Type 0 where
  pub more : Values
  pub there : r ≡ Some (more, rest)
  pub same : joined done more ≡ vs

pub behind_values : (done : Values) (r : Read Values) (rest : List Lexeme) (vs : Values)
    → listed_on done r ≡ Some (vs, rest) → BehindValues done r rest vs
behind_values done None rest vs h = absurd (cc h)
behind_values done (Some p) rest vs h =
    let q = ap (λ (o : Read Values). unwrap_or o (vs, rest)) h in
    record {
      more = p.0;
      there = ap (λ r. let it : Read Values = Some (p.0, r) in it) (ap (λ x. x.1) q);
      same = ap (λ x. x.0) q;
    }

-- the first of values
pub record FirstValue (inner : Inner) (ls : List Lexeme) (vs : Values) : Type 0 where
  pub value : Value
  pub next : List Lexeme
  pub others : Values
  pub there : value_at inner ls ≡ Some (value, next)
  pub same : more_values value others ≡ vs

pub first_value : (inner : Inner) (ls rest : List Lexeme) (vs : Values)
    → values_by inner (more_at inner) ls ≡ Some (vs, rest) → FirstValue inner ls vs
first_value inner ls rest vs h = by (value_at inner ls) refl where
  by : (r : Read Value) → value_at inner ls ≡ r → FirstValue inner ls vs
  by None k = absurd (cc (rw k at h))
  by (Some p) k = more (more_at inner p.1) refl where
    more : (r : Read Values) → more_at inner p.1 ≡ r → FirstValue inner ls vs
    more None l = absurd (cc (rw (k, l) at h))
    more (Some q) l =
        let all : ◌≡◌ {A = Read Values} (Some (more_values p.0 q.0, q.1)) (Some (vs, rest)) = rw (k, l) at h in
        record {
          value = p.0;
          next = p.1;
          others = q.0;
          there = k;
          same = ap (λ (o : Read Values). (unwrap_or o (vs, rest)).0) all;
        }
