-- What holds of the messages inside what a field holds, in the words of the model.
use Rattle.std.proofs.Common.{◌≡◌, ℕ, zero, suc, Bool, true, false, Some, refl, subst}
use Rattle.std.specs.List.{AllByRecursion}
use Rattle.protobuf_model.specs.Bytes.{type_of}
use Rattle.protobuf_model.specs.Typed.{IsOf, IsEntryOf, IsFieldOf, IsHeldOf, IsTypedBy}
use Rattle.protobuf_model.specs.Types.{Name, Kind, scalar, nested, Part, Label, one, many, keyed, Field, Types}
use Rattle.protobuf_model.specs.Values.{Single, Content, single, message, list, dictionary, Contents, no_contents, more_contents, Entries, no_entries, more_entries, content, Message, list_of, pairs_of}
use Rattle.text_model.specs.Expansions.{EachSuits, HasOneForm, HoldsMessage, HoldsOneForm}
use Rattle.text_model.specs.Plain.{IsPlain, IsPlainHeld, IsPlainContent, ArePlainContents, ArePlainEntries}
use Rattle.text_model.specs.Schemas.{Schema}
use Rattle.protox_lex.specs.Class.{Text}
use Rattle.protobuf_model.proofs.Lists.{all_map}
use Rattle.print_view.proofs.Sorting.{all_zip}

-- a content that is a message of the kind has the property
abbrev pub OneContent : (Name → Message → Type 0) → Kind → Content → Type 0
OneContent Q k (message m) = Q (type_of k) m
OneContent Q k _ = Unit {0}

-- and so has each message in a list or in a map
abbrev pub EachContent : (Name → Message → Type 0) → Kind → Content → Type 0
EachContent Q k (single v) = Unit {0}
EachContent Q k (message m) = Q (type_of k) m
EachContent Q k (list cs) = AllByRecursion (OneContent Q k) (list_of cs)
EachContent Q k (dictionary es) = AllByRecursion (λ (e : Single × Content). OneContent Q k e.1) (pairs_of es)

pub one_of_each : (Q : Name → Message → Type 0) (k : Kind) (c : Content) → EachContent Q k c → OneContent Q k c
one_of_each Q k (single v) h = tt
one_of_each Q k (message m) h = h
one_of_each Q k (list cs) h = tt
one_of_each Q k (dictionary es) h = tt

-- ---- both of two properties, and one of all messages

module _ (Q R : Name → Message → Type 0) (k : Kind) where
  abbrev Both : Name → Message → Type 0
  Both = λ u m. Q u m × R u m

  one_both : (c : Content) → OneContent Q k c → OneContent R k c → OneContent Both k c
  one_both (single v) a b = tt
  one_both (message m) a b = (a, b)
  one_both (list cs) a b = tt
  one_both (dictionary es) a b = tt

  pub each_both : (c : Content) → EachContent Q k c → EachContent R k c → EachContent Both k c
  each_both (single v) a b = tt
  each_both (message m) a b = (a, b)
  each_both (list cs) a b = all_zip (OneContent Q k) (OneContent R k) (OneContent Both k) one_both (list_of cs) a b
  each_both (dictionary es) a b =
      all_zip (λ (e : Single × Content). OneContent Q k e.1) (λ (e : Single × Content). OneContent R k e.1)
      (λ (e : Single × Content). OneContent Both k e.1) (λ e. one_both e.1) (pairs_of es) a b

module _ (Q : Name → Message → Type 0) (all : (u : Name) (m : Message) → Q u m) (k : Kind) where
  one_any : (c : Content) → OneContent Q k c
  one_any (single v) = tt
  one_any (message m) = all (type_of k) m
  one_any (list cs) = tt
  one_any (dictionary es) = tt

  any_list : (cs : Contents) → AllByRecursion (OneContent Q k) (list_of cs)
  any_list no_contents = tt
  any_list (more_contents c cs) = (one_any c, any_list cs)

  any_pairs : (es : Entries) → AllByRecursion (λ (e : Single × Content). OneContent Q k e.1) (pairs_of es)
  any_pairs no_entries = tt
  any_pairs (more_entries key c es) = (one_any c, any_pairs es)

  each_any : (c : Content) → EachContent Q k c
  each_any (single v) = tt
  each_any (message m) = all (type_of k) m
  each_any (list cs) = any_list cs
  each_any (dictionary es) = any_pairs es

-- ---- plain messages

module _ (types : Types) (k : Kind) where
  one_plain : (c : Content) → IsPlainContent types k c → OneContent (IsPlain types) k c
  one_plain (single v) h = tt
  one_plain (message m) h = h
  one_plain (list cs) h = tt
  one_plain (dictionary es) h = tt

  plain_list : (cs : Contents) → ArePlainContents types k cs → AllByRecursion (OneContent (IsPlain types) k) (list_of cs)
  plain_list no_contents h = tt
  plain_list (more_contents c cs) h = (one_plain c h.0, plain_list cs h.1)

  plain_pairs : (es : Entries) → ArePlainEntries types k es → AllByRecursion (λ (e : Single × Content). OneContent (IsPlain types) k e.1) (pairs_of es)
  plain_pairs no_entries h = tt
  plain_pairs (more_entries key c es) h = (one_plain c h.1, plain_pairs es h.2)

  each_plain : (c : Content) → IsPlainContent types k c → EachContent (IsPlain types) k c
  each_plain (single v) h = tt
  each_plain (message m) h = h
  each_plain (list cs) h = plain_list cs h
  each_plain (dictionary es) h = plain_pairs es h

-- those in what a plain message holds
pub plain_inside : (types : Types) (t : Name) (m : Message) → IsPlain types t m → (n : ℕ) (f : Field) (c : Content) → types t n ≡ Some f → m n ≡ content c → EachContent (IsPlain types) f.part.kind c
plain_inside types t m plain n f c is holds =
    each_plain types f.part.kind c (subst (λ o. IsPlainHeld types o (content c)) is (subst (IsPlainHeld types (types t n)) holds (plain n)))

-- ---- messages that suit their types

module _ (Q : Name → Message → Type 0) where
  one_typed : (k : Kind) (c : Content) → IsOf Q k c → OneContent Q k c
  one_typed (nested frame u) (message m) h = h
  one_typed (scalar s) (single v) h = tt
  one_typed k c h = absurd h

  field_typed : (k : Kind) (c : Content) → IsOf Q k c → EachContent Q k c
  field_typed (nested frame u) (message m) h = h
  field_typed (scalar s) (single v) h = tt
  field_typed k c h = absurd h

  each_typed : (part : Part) (l : Label) (c : Content) → IsFieldOf Q part l c → EachContent Q part.kind c
  each_typed part one c h = field_typed part.kind c h.0
  each_typed part (many packed) (list (more_contents c cs)) h =
      (one_typed part.kind c h.0, all_map (IsOf Q part.kind) (OneContent Q part.kind) (list_of cs) (one_typed part.kind) h.1)
  each_typed part (keyed key) (dictionary (more_entries q c es)) h =
      all_map (IsEntryOf Q key part) (λ (e : Single × Content). OneContent Q part.kind e.1) (pairs_of (more_entries q c es)) (λ e g. one_typed part.kind e.1 g.1) h.0
  each_typed part l c h = absurd h

  typed_inside : (levels : ℕ) (types : Types) (t : Name) (m : Message) → IsTypedBy Q levels (types t) m → (n : ℕ) (f : Field) (c : Content) → types t n ≡ Some f → m n ≡ content c → EachContent Q f.part.kind c
  typed_inside levels types t m typed n f c is holds =
      each_typed f.part f.label c (subst (λ o. IsHeldOf Q levels o (content c)) is (subst (IsHeldOf Q levels (types t n)) holds (typed.contents n)))

-- ---- Anys that hold the one form of a message

module _ (w : Schema) where
  -- what a message holds, if it is an Any, has it, with so many expansions left
  abbrev pub HoldsForms : ℕ → Name → Message → Type 0
  HoldsForms more u n = (url : Text × Text) (v : Name) (held : Message) → HoldsMessage w u n url v held → HoldsOneForm w u n url v held × HasOneForm more w v held

  -- so it is of a message of fewer levels than this, where Anys are expanded
  abbrev pub Forms : Bool → ℕ → ℕ → Name → Message → Type 0
  Forms true (suc more) (suc levels) = EachSuits (HoldsForms more) levels w.types
  Forms _ _ _ = λ t m. Unit {0}

  pub have_forms : (expands : Bool) (x : ℕ) (t : Name) (m : Message) → (expands ≡ true → HasOneForm x w t m) → Forms expands x 101 t m
  have_forms true zero t m h = tt
  have_forms true (suc more) t m h = h refl
  have_forms false x t m h = tt

  pub form_here : (more levels : ℕ) (t : Name) (m : Message) → Forms true (suc more) (suc levels) t m → HoldsForms more t m
  form_here more zero t m h = h.0
  form_here more (suc levels) t m h = h.0

  pub forms_inside : (expands : Bool) (x levels : ℕ) (t : Name) (m : Message) → Forms expands x (suc levels) t m → (n : ℕ) (f : Field) (c : Content) → w.types t n ≡ Some f → m n ≡ content c
      → EachContent (Forms expands x levels) f.part.kind c
  forms_inside true (suc more) (suc levels) t m h n f c is holds = typed_inside (EachSuits (HoldsForms more) levels w.types) (suc levels) w.types t m h.1 n f c is holds
  forms_inside true (suc more) zero t m h n f c is holds = each_any (λ u m. Unit {0}) (λ u m. tt) f.part.kind c
  forms_inside true zero levels t m h n f c is holds = each_any (λ u m. Unit {0}) (λ u m. tt) f.part.kind c
  forms_inside false x levels t m h n f c is holds = each_any (λ u m. Unit {0}) (λ u m. tt) f.part.kind c
