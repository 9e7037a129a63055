-- Names, types and enums, as they are read, have identifiers for names.
use Rattle.std.proofs.Common.{◌≡◌, Bool, true, false, ◌∷◌, Option, Some, None}
use Rattle.std.specs.Prelude.{if◌then◌else◌, bytes_eq, codes}
use Rattle.descriptor_records.specs.declared.field.FieldType.{FieldType}
use Rattle.descriptor_records.specs.declared.field.FieldType.TheVariants as types
use Rattle.protox_declarations.specs.EnumGrammar.{an_enum_value, enum_item, enum_item_unless, enum_items, enumeration}
use Rattle.protox_fields.specs.FieldGrammar.{field_type, map_by, map_or_name, map_type, ty, ty_after, ty_of}
use Rattle.protox_lex.specs.Class.{Text}
use Rattle.protox_lex.specs.Token.{sign}
use Rattle.protox_lex.specs.declared.span.Span.{Span}
use Rattle.protox_lex.specs.declared.token.Sign.TheVariants as s
use Rattle.protox_options.proofs.NameLaws.{Local-int, Local-parts}
use Rattle.protox_options.proofs.OptionLaws.{Local-option, Local-options}
use Rattle.protox_options.proofs.RangeLaws.{Local-reserved}
use Rattle.protox_options.specs.NameGrammar.{full_ident, parts_after}
use Rattle.protox_tokens.proofs.Local.{Local-eat, Local-expect, Local-word}
use Rattle.protox_tokens.specs.Marks.{Each, IsSome_of}
use Rattle.protox_tree.specs.Nest.{MapType}
use Rattle.protox_tree.specs.Scalar.{scalar_of}
use Rattle.protox_tree.specs.Tree.{Word}
use Rattle.source_laws.proofs.Giving.{Gives, gives-after, gives-any, gives-behind, gives-bind, gives-choose, gives-map, gives-pure, gives-until, gives-word}
use Rattle.source_laws.specs.TreeNames.{IsNamed, IsNamedEnum, IsNamedKind, IsNamedValue, IsNoGroup}

-- ---- names

gives-parts : (w : Word) → IsNamed w → Gives (IsSome_of IsNamed) (parts_after w)
unfolding parts_after
gives-parts w h =
    gives-bind (gives-behind (sign s.Dot) gives-word) (λ ws hs. gives-pure (w ∷ ws) (h, hs))

pub gives-full : Gives (IsSome_of IsNamed) full_ident
unfolding full_ident
gives-full = gives-bind gives-word gives-parts

-- ---- types

abbrev IsOfNoGroup : Option FieldType → Type 0
IsOfNoGroup o = o ≡ Some types.Group → ⊥

one_of : (b : Bool) (x y : Option FieldType) → IsOfNoGroup x → IsOfNoGroup y
    → IsOfNoGroup (if b then x else y)
one_of true x y h k = h
one_of false x y h k = k

-- no word is that of a group
no_group : (t : Text) → IsOfNoGroup (scalar_of t)
no_group t =
    one_of (bytes_eq t (codes "double")) _ _ (λ e. cc e)
    (one_of (bytes_eq t (codes "float")) _ _ (λ e. cc e)
    (one_of (bytes_eq t (codes "int32")) _ _ (λ e. cc e)
    (one_of (bytes_eq t (codes "int64")) _ _ (λ e. cc e)
    (one_of (bytes_eq t (codes "uint32")) _ _ (λ e. cc e)
    (one_of (bytes_eq t (codes "uint64")) _ _ (λ e. cc e)
    (one_of (bytes_eq t (codes "sint32")) _ _ (λ e. cc e)
    (one_of (bytes_eq t (codes "sint64")) _ _ (λ e. cc e)
    (one_of (bytes_eq t (codes "fixed32")) _ _ (λ e. cc e)
    (one_of (bytes_eq t (codes "fixed64")) _ _ (λ e. cc e)
    (one_of (bytes_eq t (codes "sfixed32")) _ _ (λ e. cc e)
    (one_of (bytes_eq t (codes "sfixed64")) _ _ (λ e. cc e)
    (one_of (bytes_eq t (codes "bool")) _ _ (λ e. cc e)
    (one_of (bytes_eq t (codes "string")) _ _ (λ e. cc e)
    (one_of (bytes_eq t (codes "bytes")) _ _ (λ e. cc e) (λ e. cc e)))))))))))))))

gives-ty_of : (w : Word) (o : Option FieldType) → IsOfNoGroup o → Gives IsNoGroup (ty_of w o)
gives-ty_of w (Some t) h = gives-pure _ h
gives-ty_of w None h = gives-map _ (gives-any (Local-parts w)) (λ parts any e. cc e)

gives-ty_after : (o : Option Span) (w : Word) → Gives IsNoGroup (ty_after o w)
gives-ty_after None w = gives-ty_of w (scalar_of w.text) (no_group w.text)
gives-ty_after (Some dot) w = gives-map _ (gives-any (Local-parts w)) (λ parts any e. cc e)

pub gives-ty : Gives IsNoGroup ty
unfolding ty
gives-ty = gives-after (Local-eat _) (λ o. gives-after Local-word (λ w. gives-ty_after o w))

abbrev pub IsOfTypes : MapType → Type 0
IsOfTypes m = IsNoGroup m.key × IsNoGroup m.value

pub gives-map_type : (p : Span) → Gives IsOfTypes (map_type p)
unfolding map_type
gives-map_type p = gives-bind gives-ty (λ key k. gives-after (Local-expect _) (λ c.
    gives-bind gives-ty (λ value v. gives-after (Local-expect _) (λ q. gives-pure _ (k, v)))))

gives-map_by : (w : Word) (o : Option Span) → Gives IsNamedKind (map_by w o)
gives-map_by w (Some bracket) = gives-map _ (gives-map_type w.span) (λ m h. h)
gives-map_by w None = gives-map _ (gives-any (Local-parts w)) (λ parts any e. cc e)

gives-map_or_name : Gives IsNamedKind map_or_name
unfolding map_or_name
gives-map_or_name = gives-after Local-word (λ w. gives-after (Local-eat _) (λ o. gives-map_by w o))

pub gives-type : Gives IsNamedKind field_type
unfolding field_type
gives-type = gives-choose _ gives-map_or_name (gives-map _ gives-ty (λ t h. h))

-- ---- enums

gives-value : Gives (λ v. IsNamed v.name) an_enum_value
unfolding an_enum_value
gives-value =
    gives-bind gives-word (λ w h. gives-after (Local-expect _) (λ e. gives-after Local-int (λ n.
    gives-after Local-options (λ os. gives-after (Local-expect _) (λ q. gives-pure _ h)))))

gives-enum_unless : (o : Option Span) → Gives IsNamedValue (enum_item_unless o)
gives-enum_unless (Some p) = gives-pure _ tt
gives-enum_unless None =
    gives-choose _ (gives-map _ (gives-any Local-option) (λ x any. tt))
    (gives-choose _ (gives-map _ (gives-any Local-reserved) (λ x any. tt))
    (gives-map _ gives-value (λ v h. h)))

gives-enum_item : Gives IsNamedValue enum_item
unfolding enum_item
gives-enum_item = gives-after (Local-eat _) gives-enum_unless

gives-enum_items : Gives (Each IsNamedValue) enum_items
unfolding enum_items
gives-enum_items = gives-until (sign s.RightBrace) gives-enum_item

pub gives-enum : Gives IsNamedEnum enumeration
unfolding enumeration
gives-enum = gives-after (Local-expect _) (λ p. gives-bind gives-word (λ w h.
    gives-after (Local-expect _) (λ b. gives-bind gives-enum_items (λ is hs.
    gives-after (Local-expect _) (λ q. gives-pure _ (h, hs))))))
