-- Options that are the same but for their places have one record.
use Rattle.std.proofs.Common.{◌≡◌, ◌∙◌, true, false, Option, Some, None, map, option_map, string_bytes, refl, ap}
use Rattle.std.specs.Str.Lossy.{utf8_lossy}
use Rattle.descriptor_records.specs.Content.{OptionContent, written}
use Rattle.protox_declaration_records.specs.OptionRecords.{list_options_of, listed, name_part_of, option_of, options_of, with_int, with_value, without_value}
use Rattle.protox_declaration_records.specs.Texts.{signed_text, text_of}
use Rattle.protox_laws.proofs.Lists.{maps}
use Rattle.protox_laws.proofs.Unplaced.{one_joined, one_type_text}
use Rattle.protox_laws.specs.Unplaced.{a_body, a_list, a_list_if, a_name, a_part, a_value, a_word, an_int, an_option, words}
use Rattle.protox_tree.specs.Tree as tree
use Rattle.protox_tree.specs.Tree.{joined}
use Rattle.protox_tree.specs.View.{body_view, float_view, ident_view, name_part_view, option_list_view, option_view, strings_view, type_name_view, value_view}
use Rattle.protox_tree.specs.declared.option.OptionBody.{OptionBody}
use Rattle.protox_tree.specs.declared.option.OptionList.{OptionList}
use Rattle.protox_tree.specs.declared.option.OptionNamePart.{OptionNamePart}
use Rattle.protox_tree.specs.declared.option.OptionNamePart.TheVariants as parts
use Rattle.protox_tree.specs.declared.option.OptionStatement.{OptionStatement}
use Rattle.protox_tree.specs.declared.option.OptionValue.{OptionValue}
use Rattle.protox_tree.specs.declared.option.OptionValue.TheVariants as values
use Rattle.protox_tree.specs.declared.text.Strings.{Strings}

-- the bytes of literals, and these as text

pub same_joined : (s t : Strings) → words (strings_view s) ≡ words (strings_view t) → joined (strings_view s) ≡ joined (strings_view t)
same_joined s t e = one_joined (strings_view s) (strings_view t) e

pub same_text : (s t : Strings) → words (strings_view s) ≡ words (strings_view t) → text_of s ≡ text_of t
same_text s t e = ap utf8_lossy (same_joined s t e)

same_part : (p q : OptionNamePart) → a_part (name_part_view p) ≡ a_part (name_part_view q) → name_part_of p ≡ name_part_of q
same_part (parts.Ident i) (parts.Ident j) e =
    let word : a_word (ident_view i) ≡ a_word (ident_view j) = cc in
    λ k. record { name_part = (word k).text; is_extension = false }
same_part (parts.Extension t span) (parts.Extension u other) e =
    let name : a_name (type_name_view t) ≡ a_name (type_name_view u) = cc in
    let text = one_type_text (type_name_view t) (type_name_view u) name in
    λ k. record { name_part = text k; is_extension = true }
same_part p q e = absurd (cc)

same_value : (v w : OptionValue) (o : OptionContent) → a_value (value_view v) ≡ a_value (value_view w) → with_value v o ≡ with_value w o
same_value (values.Ident i) (values.Ident j) o e =
    let word : a_word (ident_view i) ≡ a_word (ident_view j) = cc in
    λ k. record o { identifier_value = Some ((word k).text) }
same_value (values.NegativeWord i) (values.NegativeWord j) o e =
    let word : a_word (ident_view i) ≡ a_word (ident_view j) = cc in
    λ k. record o { double_value = Some (written (signed_text true ((word k).text))) }
same_value (values.Int n) (values.Int m) o e =
    let int : an_int n ≡ an_int m = cc in
    ap (λ k. with_int k o) int
same_value (values.Float s f) (values.Float t g) o e =
    let sign : s ≡ t = cc in
    let float : a_word (float_view f) ≡ a_word (float_view g) = cc in
    λ k. record o { double_value = Some (written (signed_text (sign k) ((float k).text))) }
same_value (values.String s) (values.String t) o e =
    let literals : words (strings_view s) ≡ words (strings_view t) = cc in
    let bytes = same_joined s t literals in
    λ k. record o { string_value = Some (bytes k) }
same_value (values.Aggregate a) (values.Aggregate b) o e =
    let text : string_bytes a.text ≡ string_bytes b.text = cc in
    λ k. record o { aggregate_value = Some (text k) }
same_value v w o e = absurd (cc)

pub same_option : (b c : OptionBody) → a_body (body_view b) ≡ a_body (body_view c) → option_of b ≡ option_of c
same_option b c e =
    let names : map name_part_of b.name.items ≡ map name_part_of c.name.items =
    maps name_part_view a_part name_part_of same_part b.name.items c.name.items (ap (λ (v : tree.Body). v.name) e) in
    let bare : without_value b.name.items ≡ without_value c.name.items = λ k. record (without_value b.name.items) { name = names k } in
    same_value b.value c.value (without_value b.name.items) (ap (λ (v : tree.Body). v.value) e) ∙ ap (with_value c.value) bare

pub same_statement : (o p : OptionStatement) → an_option (option_view o) ≡ an_option (option_view p) → option_of o.body ≡ option_of p.body
same_statement o p e = same_option o.body p.body (ap (λ (v : tree.OptionStatement). v.body) e)

-- the options in brackets
pub same_listed : (o p : Option OptionList) → a_list_if (option_map option_list_view o) ≡ a_list_if (option_map option_list_view p)
    → map a_body (map body_view (listed o)) ≡ map a_body (map body_view (listed p))
same_listed None None e = refl
same_listed (Some a) (Some b) e =
    let list : a_list (option_list_view a) ≡ a_list (option_list_view b) = cc in
    ap (λ (v : tree.OptionList). v.options) list
same_listed o p e = absurd (cc)

pub same_list : (o p : Option OptionList) → a_list_if (option_map option_list_view o) ≡ a_list_if (option_map option_list_view p) → list_options_of o ≡ list_options_of p
same_list o p e = ap options_of (maps body_view a_body option_of same_option (listed o) (listed p) (same_listed o p e))
