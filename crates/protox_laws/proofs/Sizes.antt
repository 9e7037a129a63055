-- What is at fault in a source that an `i32` counts is never its size.
use Rattle.descriptor_records.specs.declared.field.Label.{Label}
use Rattle.protox_check.specs.FieldOptions.{default_faults, default_text_faults, is_string_kind, json_name_faults, json_value_faults, option_faults, option_faults_after, options_faults, second_after, suits, value_text_faults}
use Rattle.protox_check.specs.Faults.{added_faults, added_item_faults, extend_faults, faults_of, field_faults, file_item_faults, group_faults, item_faults, item_faults_behind, items_faults, kind_faults, member_faults, members_faults, message_faults, oneof_faults, second_package}
use Rattle.protox_check.specs.Fields.{Head, head_faults, holder_faults, label_faults, name_faults, number_faults, presence_faults, required_faults}
use Rattle.protox_check.specs.Fields as fields
use Rattle.protox_check.specs.Ranges.{bound_faults, bounds_faults, enum_faults, enum_item_faults, extensions_faults, is_bound, lies_from, range_faults, range_faults_to, ranges_faults, reserved_faults}
use Rattle.protox_check.specs.Texts.{text_faults}
use Rattle.protox_check.specs.Words.{each_behind, is_proto3, told_if}
use Rattle.protox_laws.specs.Sizes.{IsNoSize}
use Rattle.protox_lex.specs.Class.{Text}
use Rattle.protox_lex.specs.Signed.{signed}
use Rattle.protox_lex.specs.declared.error.LexErrorKind.{LexErrorKind}
use Rattle.protox_lex.specs.declared.error.LexErrorKind.TheVariants as lexes
use Rattle.protox_lex.specs.declared.literal.Int.{Int}
use Rattle.protox_lex.specs.declared.span.Span.{Span}
use Rattle.protox_parse.specs.Answers.{IsAnswered}
use Rattle.protox_parse.specs.declared.error.ParseError.TheVariants.{Refused}
use Rattle.protox_parse.specs.declared.error.Refusal.{Refusal}
use Rattle.protox_tokens.specs.Refusal.{Fault, unexpected, eof, lexical, unknown_syntax, too_deep}
use Rattle.protox_tokens.specs.Told.{IsToldAs}
use Rattle.protox_tree.specs.FileTree.{File, FileItem, file_import, file_package, file_option, file_message, file_enum, file_service, file_extend, file_empty}
use Rattle.protox_tree.specs.LexicalKinds.{kind_at}
use Rattle.protox_tree.specs.Places.{body_span}
use Rattle.protox_tree.specs.Nest.{Message, message, Items, no_items, more_items, Item, item_field, item_oneof, item_message, item_enum, item_extend, item_extensions, item_reserved, item_option, item_empty, Field, field, Kind, normal, group, map_kind, Group, a_group, Oneof, oneof, Members, no_members, more_members, Member, member_field, member_option, member_empty, Extend, extend, Added, none_added, more_added, AddedItem, added_field, added_empty, Extensions}
use Rattle.protox_tree.specs.Tree.{Body, Enum, EnumItem, OptionList, has_name, ReservedItems, Value, Word, enum_value, enum_option, enum_reserved, enum_empty, reserved_ranges, reserved_names, word_value, minus_word, int_value, float_value, strings_value, braces_value}
use Rattle.protox_tree.specs.declared.error.ParseErrorKind.{ParseErrorKind}
use Rattle.protox_tree.specs.declared.error.ParseErrorKind.TheVariants as kinds
use Rattle.protox_tree.specs.declared.range.RangeEnd.{RangeEnd}
use Rattle.protox_tree.specs.declared.range.RangeEnd.TheVariants as ends
use Rattle.protox_tree.specs.declared.range.ReservedRange.{ReservedRange}
use Rattle.protox_tree.specs.declared.types.Syntax.{Syntax}
use Rattle.std.proofs.Common.{◌++◌, Bool, true, false, List, [], ◌∷◌, Option, None, Some, Err, inl, inr, subst, sym}
use Rattle.std.specs.List.{AllByRecursion, flat_map}
use Rattle.std.specs.Prelude.{◌&&◌, codes, if◌then◌else◌, int_lt, not}

abbrev Sizeless : List ParseErrorKind → Type 0
Sizeless xs = AllByRecursion IsNoSize xs

-- ---- lists

join : (xs ys : List ParseErrorKind) → Sizeless xs → Sizeless ys → Sizeless (xs ++ ys)
join [] ys h k = k
join (x ∷ xs) ys h k = (h.0, join xs ys h.1 k)

told : (b : Bool) (x : ParseErrorKind) → IsNoSize x → Sizeless (told_if b x)
told true x h = (h, tt)
told false x h = tt

either : (b : Bool) (xs ys : List ParseErrorKind) → Sizeless xs → Sizeless ys → Sizeless (if b then xs else ys)
either true xs ys h k = h
either false xs ys h k = k

flat : {A : Type 0} (f : A → List ParseErrorKind) (xs : List A) → ((x : A) → Sizeless (f x)) → Sizeless (flat_map f xs)
flat f [] h = tt
flat f (x ∷ xs) h = join (f x) (flat_map f xs) (h x) (flat f xs h)

behind : {A : Type 0} (f : List A → A → List ParseErrorKind) (before xs : List A) → ((b : List A) (x : A) → Sizeless (f b x)) → Sizeless (each_behind f before xs)
behind f before [] h = tt
behind f before (x ∷ xs) h = join (f before x) (each_behind f (before ++ x ∷ []) xs) (h before x) (behind f (before ++ x ∷ []) xs h)

-- ---- texts, numbers, ranges and enums

text : (ws : List Word) → Sizeless (text_faults ws)
text ws = told _ _ tt

bound : (ns : _) (n : Int) → Sizeless (bound_faults ns n)
bound ns n = told _ _ tt

bounds : (ns : _) (a b : Int) (s : Span) → Sizeless (bounds_faults ns a b s)
bounds ns a b s = either (is_bound ns a && is_bound ns b) (told_if (int_lt (signed b) (signed a)) (kinds.InvalidRange s)) (bound_faults ns a ++ bound_faults ns b)
    (told _ _ tt) (join (bound_faults ns a) (bound_faults ns b) (bound ns a) (bound ns b))

range_to : (ns : _) (r : ReservedRange) (e : RangeEnd) → Sizeless (range_faults_to ns r e)
range_to ns r ends.None = bound ns r.start
range_to ns r (ends.Int n) = bounds ns r.start n _
range_to ns r (ends.Max s) = bound ns r.start

ranges : (ns : _) (rs : List ReservedRange) → Sizeless (ranges_faults ns rs)
ranges ns rs = flat (range_faults ns) rs (λ r. range_to ns r r.end)

extension_ranges : (s : Syntax) (e : Extensions) → Sizeless (extensions_faults s e)
extension_ranges s e = join (told_if (is_proto3 s) (kinds.ExtensionRangeInProto3 e.span)) _ (told _ _ tt) (search (ranges))

reserved : (ns : _) (i : ReservedItems) → Sizeless (reserved_faults ns i)
reserved ns (reserved_ranges rs) = ranges ns rs
reserved ns (reserved_names names) = flat text_faults names text

enum_item : (i : EnumItem) → Sizeless (enum_item_faults i)
enum_item (enum_value v) = told _ _ tt
enum_item (enum_reserved r) = search (reserved)
enum_item (enum_option o) = tt
enum_item (enum_empty s) = tt

enums : (e : Enum) → Sizeless (enum_faults e)
enums e = flat enum_item_faults e.items enum_item

-- ---- fields

presence : (s : Syntax) (h : _) (k : Kind) (at : Span) (l : Option (Label × Span)) → Sizeless (presence_faults s h k at l)
presence s h k at None = told _ _ tt
presence s h k at (Some l) = told _ _ tt

labels : (h : _) (k : Kind) (l : Option (Label × Span)) → Sizeless (label_faults h k l)
labels h k None = tt
labels h k (Some l) = join (told_if _ _) (told_if _ _) (told _ _ tt) (told _ _ tt)

required : (h : _) (l : Option (Label × Span)) → Sizeless (required_faults h l)
required h None = tt
required h (Some l) = told _ _ tt

names : (k : Kind) (w : Word) → Sizeless (name_faults k w)
names (normal ty) w = tt
names (group g) w = told _ _ tt
names (map_kind m) w = told _ _ tt

numbers : (n : Int) → Sizeless (number_faults n)
numbers n = either (lies_from 19000 19999 (signed n)) (kinds.ReservedMessageNumber n.span ∷ []) (told_if (not (lies_from 1 536870911 (signed n))) (kinds.InvalidMessageNumber n.span))
    (tt, tt) (told _ _ tt)

holders : (h : _) (k : Kind) (at : Span) → Sizeless (holder_faults h k at)
holders h k at = join (told_if _ _) (told_if _ _) (told _ _ tt) (told _ _ tt)

heads : (s : Syntax) (h : _) (f : Head) → Sizeless (head_faults s h f)
heads s h f = join (presence_faults s h f.kind f.span f.label) _ (presence s h f.kind f.span f.label)
    (join (fields.group_faults s f.kind f.span) _ (told _ _ tt)
    (join (label_faults h f.kind f.label) _ (labels h f.kind f.label)
    (join (holder_faults h f.kind f.span) _ (holders h f.kind f.span)
    (join (required_faults h f.label) _ (required h f.label)
    (join (name_faults f.kind f.name) _ (names f.kind f.name) (numbers f.number))))))

-- ---- options of fields

second : (first : Option Span) (at : Span) → Sizeless (second_after first at)
second None at = tt
second (Some first) at = (tt, tt)

value_text : (v : Value) → Sizeless (value_text_faults v)
value_text (strings_value ws) = text ws
value_text (word_value w) = tt
value_text (minus_word w) = tt
value_text (int_value n) = tt
value_text (float_value negative w) = tt
value_text (braces_value t at) = tt

json_value : (v : Value) → Sizeless (json_value_faults v)
json_value (strings_value ws) = text ws
json_value (word_value w) = (tt, tt)
json_value (minus_word w) = (tt, tt)
json_value (int_value n) = (tt, tt)
json_value (float_value negative w) = (tt, tt)
json_value (braces_value t at) = (tt, tt)

default_text : (b : Bool) (k : Kind) (v : Value) → Sizeless (default_text_faults b k v)
default_text b k v = either (b && is_string_kind k) (value_text_faults v) [] (value_text v) tt

defaults : (s : Syntax) (l : Option (Label × Span)) (k : Kind) (first : Option Span) (b : Body) → Sizeless (default_faults s l k first b)
defaults s l k first b = join (told_if (is_proto3 s) (kinds.DefaultInProto3 (body_span b))) _ (told _ _ tt)
    (join (told_if (not (suits l k b.value)) (kinds.InvalidDefault (body_span b))) _ (told _ _ tt)
    (join (second_after first (body_span b)) _ (second first (body_span b)) (default_text (suits l k b.value) k b.value)))

json_names : (first : Option Span) (b : Body) → Sizeless (json_name_faults first b)
json_names first b = join (second_after first (body_span b)) _ (second first (body_span b)) (json_value b.value)

option_after : (s : Syntax) (l : Option (Label × Span)) (k : Kind) (d j : Option Span) (b : Body) → Sizeless (option_faults_after s l k d j b)
option_after s l k d j b = either (has_name (codes "default") b.name) (default_faults s l k d b) (if has_name (codes "json_name") b.name then json_name_faults j b else [])
    (defaults s l k d b) (either (has_name (codes "json_name") b.name) (json_name_faults j b) [] (json_names j b) tt)

options : (s : Syntax) (l : Option (Label × Span)) (k : Kind) (o : Option OptionList) → Sizeless (options_faults s l k o)
options s l k None = tt
options s l k (Some list) = behind (option_faults s l k) [] list.options (λ before b. option_after s l k _ _ b)

-- ---- trees

mutual
  in_message : (s : Syntax) (m : Message) → Sizeless (message_faults s m)
  in_message s (message name braces items span) = in_items s items

  in_items : (s : Syntax) (is : Items) → Sizeless (items_faults s is)
  in_items s no_items = tt
  in_items s (more_items i is) = join (item_faults s i) (items_faults s is) (in_item s i) (in_items s is)

  in_item : (s : Syntax) (i : Item) → Sizeless (item_faults s i)
  in_item s (item_field f) = in_field s _ f
  in_item s (item_oneof o) = in_oneof s o
  in_item s (item_message m) = in_message s m
  in_item s (item_enum e) = enums e
  in_item s (item_extend e) = in_extend s e
  in_item s (item_extensions e) = extension_ranges s e
  in_item s (item_reserved r) = search (reserved)
  in_item s (item_option o) = tt
  in_item s (item_empty span) = tt

  in_field : (s : Syntax) (h : _) (f : Field) → Sizeless (field_faults s h f)
  in_field s h (field label kind name number os span) =
      let head : Head = record { label = label; kind = kind; name = name; number = number; span = span } in
      join (head_faults s h head) _ (heads s h head)
      (join (options_faults s label kind os) (kind_faults s kind) (options s label kind os) (in_kind s kind))

  in_kind : (s : Syntax) (k : Kind) → Sizeless (kind_faults s k)
  in_kind s (normal ty) = tt
  in_kind s (group g) = in_group s g
  in_kind s (map_kind m) = tt

  in_group : (s : Syntax) (g : Group) → Sizeless (group_faults s g)
  in_group s (a_group word braces items) = in_items s items

  in_oneof : (s : Syntax) (o : Oneof) → Sizeless (oneof_faults s o)
  in_oneof s (oneof name braces members span) = join (told_if _ _) (members_faults s members) (told _ _ tt) (in_members s members)

  in_members : (s : Syntax) (ms : Members) → Sizeless (members_faults s ms)
  in_members s no_members = tt
  in_members s (more_members i is) = join (member_faults s i) (members_faults s is) (in_member s i) (in_members s is)

  in_member : (s : Syntax) (m : Member) → Sizeless (member_faults s m)
  in_member s (member_field f) = in_field s _ f
  in_member s (member_option o) = tt
  in_member s (member_empty span) = tt

  in_extend : (s : Syntax) (e : Extend) → Sizeless (extend_faults s e)
  in_extend s (extend extendee braces items span) = in_added s items

  in_added : (s : Syntax) (is : Added) → Sizeless (added_faults s is)
  in_added s none_added = tt
  in_added s (more_added i is) = join (added_item_faults s i) (added_faults s is) (in_added_item s i) (in_added s is)

  in_added_item : (s : Syntax) (i : AddedItem) → Sizeless (added_item_faults s i)
  in_added_item s (added_field f) = in_field s _ f
  in_added_item s (added_empty span) = tt

packages : (first : Option Span) (at : Span) → Sizeless (second_package first at)
packages None at = tt
packages (Some first) at = (tt, tt)

in_file_item : (s : Syntax) (first : Option Span) (i : FileItem) → Sizeless (file_item_faults s first i)
in_file_item s first (file_import i) = text i.value
in_file_item s first (file_package p) = packages first p.span
in_file_item s first (file_option o) = tt
in_file_item s first (file_message m) = in_message s m
in_file_item s first (file_enum e) = enums e
in_file_item s first (file_service v) = tt
in_file_item s first (file_extend e) = in_extend s e
in_file_item s first (file_empty span) = tt

in_file : (f : File) → Sizeless (faults_of f)
in_file f = behind (item_faults_behind _) [] f.items (λ before i. in_file_item _ _ i)

-- ---- answers

of_lexer : (k : LexErrorKind) (at : Span) → IsNoSize (kind_at k at)
of_lexer lexes.InvalidToken at = tt
of_lexer k at = tt

as_told : (f : Fault) (k : ParseErrorKind) → IsToldAs f k → IsNoSize k
as_told (unexpected e t at) kinds.FileTooLarge h = absurd h
as_told (eof e) kinds.FileTooLarge h = absurd h
as_told (lexical e) k h = subst IsNoSize (sym h) (of_lexer e.kind e.span)
as_told (unknown_syntax at) k h = subst IsNoSize (sym h) tt
as_told (too_deep at) k h = subst IsNoSize (sym h) tt
as_told (unexpected e t at) k h = tt
as_told (eof e) k h = tt

pub sizeless : (name z : Text) (r : Refusal) → IsAnswered name z (Err (Refused r)) → Sizeless r.faults.items
sizeless name z r (inl (fault, _, (kind, is, h))) = subst Sizeless (sym is) (as_told fault kind h, tt)
sizeless name z r (inr (tree, _, (is, some))) = subst Sizeless (sym is) (in_file tree)
