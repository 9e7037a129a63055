-- Names without dots: identifiers, words, and names with letters in front.
use Rattle.std.proofs.Common.{◌≡◌, ◌∙◌, ◌⊎◌, ◌||◌, ℕ, zero, suc, true, false, [], ◌∷◌, List, Option, None, Some, inl, inr, refl, ap}
use Rattle.std.specs.List.{AllByRecursion, list_all}
use Rattle.std.proofs.lemmas.Bool.{and_parts}
use Rattle.descriptor_records.specs.Content.{FieldContent, OptionsContent}
use Rattle.protox_lex.specs.Class.{Text, is_in}
use Rattle.protox_lex.specs.declared.class.Class.TheVariants as class
use Rattle.protox_message_records.specs.SyntheticOneofs.{IsFreed, behind_letters}
use Rattle.schema_view.specs.Means.{has_dot}
use Rattle.schema_view.specs.Plain.{HasPlainName}
use Rattle.source_laws.proofs.Lists.{all_so}
use Rattle.source_laws.proofs.NamedFields.{HasName}
use Rattle.source_laws.proofs.Texts.{identifier_words, not_dot}
use Rattle.source_records.specs.SourceNames.{AreSpelled, IsEntry, IsSpelled, IsWord}
use Rattle.text_model.specs.Identifiers.{is_identifier}

-- ---- texts

abbrev pub IsUndotted : Text → Type 0
IsUndotted t = has_dot t ≡ false

pub words_undotted : (t : Text) → list_all (is_in class.Word) t ≡ true → IsUndotted t
words_undotted [] h = refl
words_undotted (b ∷ t) h =
    let both = and_parts (is_in class.Word b) (list_all (is_in class.Word) t) h in
    ap (λ v. v || has_dot t) (not_dot b both.0) ∙ words_undotted t both.1

pub identifier_undotted : (t : Text) → is_identifier t ≡ true → IsUndotted t
identifier_undotted t h = words_undotted t (identifier_words t h)

-- letters `X` in front are no dots
letters_undotted : (count : ℕ) (t : Text) → IsUndotted t → IsUndotted (behind_letters count t)
letters_undotted zero t h = h
letters_undotted (suc n) t h = letters_undotted n t h

pub freed_undotted : (taken : List Text) (name made : Text) → IsUndotted name
    → IsFreed taken name made → IsUndotted made
freed_undotted taken name made h is = ap has_dot is.1 ∙ letters_undotted is.0 name h

-- ---- names in records

pub spelled_undotted : (name : Option Text) → IsSpelled name → HasPlainName name
spelled_undotted None h = absurd h
spelled_undotted (Some t) h = identifier_undotted t h

word_undotted : (name : Option Text) → IsWord name → HasPlainName name
word_undotted None h = absurd h
word_undotted (Some t) h = words_undotted t h

-- that of a message, or of the type of a map's entries
pub type_undotted : (name : Option Text) (options : Option OptionsContent)
    → IsSpelled name ⊎ (IsEntry options × IsWord name) → HasPlainName name
type_undotted name options (inl h) = spelled_undotted name h
type_undotted name options (inr h) = word_undotted name h.1

abbrev HasUndottedName : FieldContent → Type 0
HasUndottedName f = HasPlainName f.name

pub fields_undotted : (fs : List FieldContent) → AreSpelled fs → AllByRecursion HasUndottedName fs
fields_undotted fs h = all_so HasName HasUndottedName (λ f. spelled_undotted f.name) fs h
