-- What records read of a tree is the same where trees are the same but for their places.
use Rattle.std.proofs.Common.{◌≡◌, ◌∙◌, ◌+ℤ◌, ◌++◌, ◌^◌, ℤ, pos, true, if◌then◌else◌, List, [], ◌∷◌, Option, Some, None, is_some, map, flat_map, option_and_then, option_map, refl, ap, sym}
use Rattle.descriptor_records.specs.FieldNumbers.{type_number}
use Rattle.descriptor_records.specs.declared.field.Label.{Label}
use Rattle.protox_declaration_records.specs.EnumRecords.{enum_range_of}
use Rattle.protox_declaration_records.specs.Numbers.{held_by, i32_of, last_from}
use Rattle.protox_declaration_records.specs.OptionRecords.{list_options_of}
use Rattle.protox_field_records.specs.FieldRecords.{is_bytes, is_bytes_type, is_group, label_of, scalar_number, type_name_of, type_of, written_label}
use Rattle.protox_laws.specs.Unplaced.{a_kind, a_label, a_name, a_part, a_range, a_syntax, a_type, an_end, an_int, dot, unmarked, words}
use Rattle.protox_lex.specs.Class.{Text}
use Rattle.protox_lex.specs.declared.literal.Int.{Int}
use Rattle.protox_lex.specs.declared.span.Span.{Span}
use Rattle.protox_message_records.specs.MessageRecords.{end_of, extension_range_of, reserved_range_of, tells_presence}
use Rattle.protox_record.specs.FileRecords.{is_kind}
use Rattle.protox_tree.specs.FileTree.{SyntaxStatement, syntax_of}
use Rattle.protox_tree.specs.Nest.{Kind, group, map_kind, normal}
use Rattle.protox_tree.specs.Scalar.{scalar_type, written_name}
use Rattle.protox_tree.specs.Tree.{NamePart, Ty, TypeName, Word, dotted, extension, has_name, is_plain, joined, named, plain, scalar, type_text}
use Rattle.protox_tree.specs.declared.file.ImportKind.{ImportKind}
use Rattle.protox_tree.specs.declared.option.OptionList.{OptionList}
use Rattle.protox_tree.specs.declared.range.RangeEnd.{RangeEnd}
use Rattle.protox_tree.specs.declared.range.RangeEnd.TheVariants as ends
use Rattle.protox_tree.specs.declared.range.ReservedRange.{ReservedRange}
use Rattle.protox_tree.specs.declared.types.Syntax.{Syntax}
use Rattle.protox_tree.specs.declared.types.Syntax.TheVariants as syntaxes

-- What stays as it is where a thing is made bare is the same of things that are the same when bare.
module _ {A B : Type 0} (bare : A → A) (f : A → B) (stays : (x : A) → f (bare x) ≡ f x) where
  one : (x y : A) → bare x ≡ bare y → f x ≡ f y
  one x y e = sym (stays x) ∙ ap f e ∙ stays y

  all_stay : (xs : List A) → map f (map bare xs) ≡ map f xs
  all_stay [] = refl
  all_stay (x ∷ xs) = λ i. stays x i ∷ all_stay xs i

  one_list : (xs ys : List A) → map bare xs ≡ map bare ys → map f xs ≡ map f ys
  one_list xs ys e = sym (all_stay xs) ∙ ap (map f) e ∙ all_stay ys

-- ---- names and types

-- what is made of each word's text, one behind the other
texts_stay : (made : Text → Text) (ws : List Word) → flat_map (λ (w : Word). made w.text) (words ws) ≡ flat_map (λ (w : Word). made w.text) ws
texts_stay made [] = refl
texts_stay made (w ∷ ws) = ap (λ t. made w.text ++ t) (texts_stay made ws)

joined_stays : (ws : List Word) → joined (words ws) ≡ joined ws
joined_stays ws = texts_stay (λ t. t) ws

dotted_stays : (ws : List Word) → dotted (words ws) ≡ dotted ws
dotted_stays [] = refl
dotted_stays (w ∷ ws) = ap (λ t. w.text ++ t) (texts_stay (λ t. 46 ∷ t) ws)

dot_stays : (at : Option Span) → is_some (dot at) ≡ is_some at
dot_stays None = refl
dot_stays (Some at) = refl

stream_stays : (at : Option Span) → option_map (λ (span : Span). true) (dot at) ≡ option_map (λ (span : Span). true) at
stream_stays None = refl
stream_stays (Some at) = refl

type_text_stays : (t : TypeName) → type_text (a_name t) ≡ type_text t
type_text_stays t = λ i. if dot_stays t.leading_dot i then 46 ∷ dotted_stays t.parts i else dotted_stays t.parts i

written_name_stays : (t : Ty) → written_name (a_type t) ≡ written_name t
written_name_stays (scalar t at) = refl
written_name_stays (named t) = ap Some (type_text_stays t)

scalar_type_stays : (t : Ty) → scalar_type (a_type t) ≡ scalar_type t
scalar_type_stays (scalar t at) = refl
scalar_type_stays (named t) = refl

scalar_number_stays : (t : Ty) → scalar_number (a_type t) ≡ scalar_number t
scalar_number_stays t = ap (option_map type_number) (scalar_type_stays t)

pub one_joined : (ws vs : List Word) → words ws ≡ words vs → joined ws ≡ joined vs
one_joined = one words joined joined_stays

pub one_dotted : (ws vs : List Word) → words ws ≡ words vs → dotted ws ≡ dotted vs
one_dotted = one words dotted dotted_stays

pub one_stream : (at by : Option Span) → dot at ≡ dot by → option_map (λ (span : Span). true) at ≡ option_map (λ (span : Span). true) by
one_stream = one dot (option_map (λ (span : Span). true)) stream_stays

pub one_type_text : (t u : TypeName) → a_name t ≡ a_name u → type_text t ≡ type_text u
one_type_text = one a_name type_text type_text_stays

pub one_written_name : (t u : Ty) → a_type t ≡ a_type u → written_name t ≡ written_name u
one_written_name = one a_type written_name written_name_stays

pub one_scalar_number : (t u : Ty) → a_type t ≡ a_type u → scalar_number t ≡ scalar_number u
one_scalar_number = one a_type scalar_number scalar_number_stays

-- ---- options

is_plain_stays : (name : Text) (p : NamePart) → is_plain name (a_part p) ≡ is_plain name p
is_plain_stays name (plain w) = refl
is_plain_stays name (extension t at) = refl

has_name_stays : (name : Text) (ps : List NamePart) → has_name name (map a_part ps) ≡ has_name name ps
has_name_stays name [] = refl
has_name_stays name (p ∷ []) = is_plain_stays name p
has_name_stays name (p ∷ (q ∷ ps)) = refl

pub one_has_name : (name : Text) (ps qs : List NamePart) → map a_part ps ≡ map a_part qs → has_name name ps ≡ has_name name qs
one_has_name name = one (map a_part) (has_name name) (has_name_stays name)

-- ---- ranges

last_stays : (start : Int) (greatest : ℤ) (e : RangeEnd) → last_from (an_int start) greatest (an_end e) ≡ last_from start greatest e
last_stays start greatest ends.None = refl
last_stays start greatest (ends.Int n) = refl
last_stays start greatest (ends.Max at) = refl

end_stays : (r : ReservedRange) → end_of (a_range r) ≡ end_of r
end_stays r = ap (option_and_then (λ (z : ℤ). held_by (2 ^ 31) (z +ℤ pos 1))) (last_stays r.start (pos 536870911) r.end)

enum_range_stays : (r : ReservedRange) → enum_range_of (a_range r) ≡ enum_range_of r
enum_range_stays r = λ i. record { start = i32_of r.start; end = last_stays r.start (pos 2147483647) r.end i }

reserved_range_stays : (r : ReservedRange) → reserved_range_of (a_range r) ≡ reserved_range_of r
reserved_range_stays r = λ i. record { start = i32_of r.start; end = end_stays r i }

extension_range_stays : (list : Option OptionList) (r : ReservedRange) → extension_range_of list (a_range r) ≡ extension_range_of list r
extension_range_stays list r = λ i. record { start = i32_of r.start; end = end_stays r i; options = list_options_of list }

pub one_enum_ranges : (rs ss : List ReservedRange) → map a_range rs ≡ map a_range ss → map enum_range_of rs ≡ map enum_range_of ss
one_enum_ranges = one_list a_range enum_range_of enum_range_stays

pub one_reserved_ranges : (rs ss : List ReservedRange) → map a_range rs ≡ map a_range ss → map reserved_range_of rs ≡ map reserved_range_of ss
one_reserved_ranges = one_list a_range reserved_range_of reserved_range_stays

pub one_extension_ranges : (list : Option OptionList) (rs ss : List ReservedRange) → map a_range rs ≡ map a_range ss → map (extension_range_of list) rs ≡ map (extension_range_of list) ss
one_extension_ranges list = one_list a_range (extension_range_of list) (extension_range_stays list)

-- ---- fields

is_group_stays : (k : Kind) → is_group (a_kind k) ≡ is_group k
is_group_stays (normal t) = refl
is_group_stays (group g) = refl
is_group_stays (map_kind m) = refl

is_bytes_stays : (k : Kind) → is_bytes (a_kind k) ≡ is_bytes k
is_bytes_stays (normal t) = ap is_bytes_type (scalar_type_stays t)
is_bytes_stays (group g) = refl
is_bytes_stays (map_kind m) = refl

type_stays : (k : Kind) → type_of (a_kind k) ≡ type_of k
type_stays (normal t) = scalar_number_stays t
type_stays (group g) = refl
type_stays (map_kind m) = refl

type_name_stays : (name : Text) (k : Kind) → type_name_of name (a_kind k) ≡ type_name_of name k
type_name_stays name (normal t) = written_name_stays t
type_name_stays name (group g) = refl
type_name_stays name (map_kind m) = refl

written_label_stays : (l : Option (Label × Span)) → written_label (a_label l) ≡ written_label l
written_label_stays None = refl
written_label_stays (Some l) = refl

label_stays : (l : Option (Label × Span)) (k : Kind) → label_of (a_label l) (a_kind k) ≡ label_of l k
label_stays l (normal t) = written_label_stays l
label_stays l (group g) = written_label_stays l
label_stays l (map_kind m) = refl

presence_stays : (s : Syntax) (l : Option (Label × Span)) → tells_presence s (a_label l) ≡ tells_presence s l
presence_stays s None = refl
presence_stays syntaxes.Proto2 (Some l) = refl
presence_stays syntaxes.Proto3 (Some l) = refl

pub one_is_group : (k j : Kind) → a_kind k ≡ a_kind j → is_group k ≡ is_group j
one_is_group = one a_kind is_group is_group_stays

pub one_is_bytes : (k j : Kind) → a_kind k ≡ a_kind j → is_bytes k ≡ is_bytes j
one_is_bytes = one a_kind is_bytes is_bytes_stays

pub one_type : (k j : Kind) → a_kind k ≡ a_kind j → type_of k ≡ type_of j
one_type = one a_kind type_of type_stays

pub one_type_name : (name : Text) (k j : Kind) → a_kind k ≡ a_kind j → type_name_of name k ≡ type_name_of name j
one_type_name name = one a_kind (type_name_of name) (type_name_stays name)

pub one_label : (l m : Option (Label × Span)) (k j : Kind) → a_label l ≡ a_label m → a_kind k ≡ a_kind j → label_of l k ≡ label_of m j
one_label l m k j labels kinds = sym (label_stays l k) ∙ (λ i. label_of (labels i) (kinds i)) ∙ label_stays m j

pub one_presence : (s : Syntax) (l m : Option (Label × Span)) → a_label l ≡ a_label m → tells_presence s l ≡ tells_presence s m
one_presence s = one a_label (tells_presence s) (presence_stays s)

-- ---- files

is_kind_stays : (kind : ImportKind) (k : Option (ImportKind × Span)) → is_kind kind (option_map unmarked k) ≡ is_kind kind k
is_kind_stays kind None = refl
is_kind_stays kind (Some k) = refl

syntax_stays : (s : Option SyntaxStatement) → syntax_of (option_map a_syntax s) ≡ syntax_of s
syntax_stays None = refl
syntax_stays (Some s) = refl

pub one_is_kind : (kind : ImportKind) (k j : Option (ImportKind × Span)) → option_map unmarked k ≡ option_map unmarked j → is_kind kind k ≡ is_kind kind j
one_is_kind kind = one (option_map unmarked) (is_kind kind) (is_kind_stays kind)

pub one_syntax : (s t : Option SyntaxStatement) → option_map a_syntax s ≡ option_map a_syntax t → syntax_of s ≡ syntax_of t
one_syntax = one (option_map a_syntax) syntax_of syntax_stays
