-- Which declaration of a batch an entry is of: the one that is counted so among those of its sort.
use Rattle.std.proofs.Common.{◌≡◌, ◌⊎◌, inl, inr, ◌+◌, ℕ, zero, suc, Bool, true, false, cond, List, [], ◌∷◌, ◌++◌, Some, refl, sym, ap, ◌∙◌, subst, arith, slice_get}
use Rattle.std.specs.List.{AllZip}
use Rattle.descriptor_records.specs.declared.file.FileDescriptorProto.{FileDescriptorProto}
use Rattle.reflect_declarations.specs.Batches.{batch_declarations}
use Rattle.reflect_declarations.specs.Declarations.{Declaration, Body, of_message, of_enum, of_service, past_file, file_declarations}
use Rattle.reflect_declarations.specs.Tree.{MessageParts}
use Rattle.reflect_declarations.specs.declared.offsets.Offsets.{Offsets}
use Rattle.reflect_index.specs.Along.{AtHand, Met, along, met, hand_behind, all_of, is_message, is_enum, is_service}
use Rattle.reflect_index.specs.Entries.{Head, IsHeadOf, written_name}
use Rattle.reflect_index.specs.OfDeclarations.{message_in, messages_in}
use Rattle.reflect_index.proofs.Counted.{past_one, IsNext, AreNext, file_next}
use Rattle.reflect_index.proofs.Among.{Among, of_filter, of_place, zip_place}
use Rattle.reflect_index.proofs.Declared.{of_along}

zeroth : (n : ℕ) → n ≡ n + 0
zeroth n = omega arith

next : (n k : ℕ) → n + 1 + k ≡ n + suc k
next n k = omega arith

-- the index of each declaration goes on from what is declared before it, whatever its file
abbrev pub AreCounted : Offsets → List Declaration → Offsets → Type 0
AreCounted o [] p = p ≡ o
AreCounted o (d ∷ ds) p = IsNext o d.index d.body × AreCounted (past_one o d.body) ds p

file_counted : (file : ℕ) (o : Offsets) (ds : List Declaration) (p : Offsets) → AreNext file o ds p
    → AreCounted o ds p
file_counted file o [] p h = h
file_counted file o (d ∷ ds) p h = (h.1.0, file_counted file (past_one o d.body) ds p h.1.1)

counted_on : (o : Offsets) (xs : List Declaration) (p : Offsets) (ys : List Declaration)
    (q : Offsets) → AreCounted o xs p → AreCounted p ys q → AreCounted o (xs ++ ys) q
counted_on o [] p ys q a b = subst (λ r. AreCounted r ys q) a b
counted_on o (x ∷ xs) p ys q a b = (a.0, counted_on (past_one o x.body) xs p ys q a.1 b)

pub batch_counted : (o : Offsets) (i : ℕ) (fs : List FileDescriptorProto)
    → (p : Offsets) × AreCounted o (batch_declarations o i fs) p
batch_counted o i [] = (o, refl)
batch_counted o i (f ∷ fs) =
    let rest = batch_counted (past_file o f) (i + 1) fs in (
      rest.0,
      counted_on o (file_declarations o i f) (past_file o f)
          (batch_declarations (past_file o f) (i + 1) fs) rest.0
          (file_counted i o (file_declarations o i f) (past_file o f) (file_next i o f)) rest.1,
    )

-- ---- sorts that are counted

pub record Counts (sort : Body → Bool) (count : Offsets → ℕ) : Type 0 where
  pub own : (o : Offsets) (i : ℕ) (b : Body) → sort b ≡ true → IsNext o i b → i ≡ count o
  pub more : (o : Offsets) (b : Body) → sort b ≡ true → count (past_one o b) ≡ count o + 1
  pub same : (o : Offsets) (b : Body) → sort b ≡ false → count (past_one o b) ≡ count o

pub messages_counted : Counts is_message (λ o. o.messages)
messages_counted = record { own = own; more = more; same = same } where
  own : (o : Offsets) (i : ℕ) (b : Body) → is_message b ≡ true → IsNext o i b → i ≡ o.messages
  own o i (of_message m) e h = h
  own o i b e h = absurd (cc e)

  more : (o : Offsets) (b : Body) → is_message b ≡ true
      → (past_one o b).messages ≡ o.messages + 1
  more o (of_message m) e = refl
  more o b e = absurd (cc e)

  same : (o : Offsets) (b : Body) → is_message b ≡ false → (past_one o b).messages ≡ o.messages
  same o (of_message m) e = absurd (cc e)
  same o b e = refl

pub enums_counted : Counts is_enum (λ o. o.enums)
enums_counted = record { own = own; more = more; same = same } where
  own : (o : Offsets) (i : ℕ) (b : Body) → is_enum b ≡ true → IsNext o i b → i ≡ o.enums
  own o i (of_enum m) e h = h
  own o i b e h = absurd (cc e)

  more : (o : Offsets) (b : Body) → is_enum b ≡ true → (past_one o b).enums ≡ o.enums + 1
  more o (of_enum m) e = refl
  more o b e = absurd (cc e)

  same : (o : Offsets) (b : Body) → is_enum b ≡ false → (past_one o b).enums ≡ o.enums
  same o (of_enum m) e = absurd (cc e)
  same o b e = refl

pub services_counted : Counts is_service (λ o. o.services)
services_counted = record { own = own; more = more; same = same } where
  own : (o : Offsets) (i : ℕ) (b : Body) → is_service b ≡ true → IsNext o i b → i ≡ o.services
  own o i (of_service m) e h = h
  own o i b e h = absurd (cc e)

  more : (o : Offsets) (b : Body) → is_service b ≡ true
      → (past_one o b).services ≡ o.services + 1
  more o (of_service m) e = refl
  more o b e = absurd (cc e)

  same : (o : Offsets) (b : Body) → is_service b ≡ false → (past_one o b).services ≡ o.services
  same o (of_service m) e = absurd (cc e)
  same o b e = refl

module _ (sort : Body → Bool) (count : Offsets → ℕ) (counts : Counts sort count) where
  -- a declaration of the sort stands among those at the place that its index tells
  record IsAt (first : ℕ) (ms : List Met) (d : Declaration) : Type 0 where
    place : ℕ
    its : Met
    index : d.index ≡ first + place
    at : slice_get ms place ≡ Some its
    is : its.declaration ≡ d

  stands_at : (o : Offsets) (h : AtHand) (ds : List Declaration) (p : Offsets)
      → AreCounted o ds p → (d : Declaration) → Among d ds → sort d.body ≡ true
      → IsAt (count o) (all_of sort (along h ds)) d
  stands_at o h [] p c d k is = absurd k
  stands_at o h (e ∷ ds) p c d k is =
      by (λ k. stands_at (past_one o e.body) (hand_behind h e) ds p c.1 d k is) (sort e.body) refl k
    where
      rest : List Met
      rest = all_of sort (along (hand_behind h e) ds)

      listed : Bool → List Met
      listed b = cond b (met h e ∷ rest) rest

      by : (Among d ds → IsAt (count (past_one o e.body)) rest d) → (b : Bool) → sort e.body ≡ b
          → (e ≡ d) ⊎ Among d ds → IsAt (count o) (listed (sort e.body)) d
      by later true on (inl same) = record {
        place = 0;
        its = met h e;
        index = ap (λ (x : Declaration). x.index) (sym same)
            ∙ counts.own o e.index e.body on c.0 ∙ zeroth (count o);
        at = ap (λ b. slice_get (listed b) 0) on;
        is = same;
      }
      by later false off (inl same) =
          absurd (cc (sym off ∙ ap (λ (x : Declaration). sort x.body) same ∙ is))
      by later true on (inr k) = let r = later k in record {
        place = suc r.place;
        its = r.its;
        index = r.index ∙ ap (λ n. n + r.place) (counts.more o e.body on)
            ∙ next (count o) r.place;
        at = ap (λ b. slice_get (listed b) (suc r.place)) on ∙ r.at;
        is = r.is;
      }
      by later false off (inr k) = let r = later k in record {
        place = r.place;
        its = r.its;
        index = r.index ∙ ap (λ n. n + r.place) (counts.same o e.body off);
        at = ap (λ b. slice_get (listed b) r.place) off ∙ r.at;
        is = r.is;
      }

  -- entries of the sort, by their declarations
  module _ (o : Offsets) (h : AtHand) (ds : List Declaration) (p : Offsets)
      (counted : AreCounted o ds p) (heads : List Head)
      (zip : AllZip IsHeadOf (all_of sort (along h ds)) heads) (k : ℕ) (x : Head)
      (at : slice_get heads k ≡ Some x) where
    pub record IsHeaded : Type 0 where
      pub declaration : Declaration
      pub here : Among declaration ds
      pub is : sort declaration.body ≡ true
      pub path : x.path ≡ declaration.path
      pub name : x.name ≡ written_name declaration.body
      pub file : x.file ≡ declaration.file

    pub headed : IsHeaded
    headed =
        let zipped = zip_place IsHeadOf (all_of sort (along h ds)) heads k x zip at in
        let found = of_filter (λ (m : Met). sort m.declaration.body) zipped.0 (along h ds)
        (of_place zipped.0 (all_of sort (along h ds)) k zipped.1) in
        record {
          declaration = zipped.0.declaration;
          here = of_along h ds zipped.0 found.0;
          is = found.1;
          path = ap (λ (y : Head). y.path) zipped.2;
          name = ap (λ (y : Head). y.name) zipped.2;
          file = ap (λ (y : Head). y.file) zipped.2;
        }

    -- the file of the declaration that has the entry's index is the entry's
    pub same_file : (w : Declaration) → Among w ds → sort w.body ≡ true → w.index ≡ count o + k
        → x.file ≡ w.file
    same_file w here is index =
        let zipped = zip_place IsHeadOf (all_of sort (along h ds)) heads k x zip at in
        let its = stands_at o h ds p counted w here is in
        let place = its.index in
        let same : its.place ≡ k = omega (arith, place, index) in
        let one : zipped.0 ≡ its.its =
        cc (sym zipped.1 ∙ ap (slice_get (all_of sort (along h ds))) (sym same) ∙ its.at) in
        ap (λ (y : Head). y.file) zipped.2 ∙ ap (λ (m : Met). m.declaration.file) one
        ∙ ap (λ (d : Declaration). d.file) its.is

-- ---- message types

-- a message type is declared with the index
pub record DeclaresMessage (ds : List Declaration) (index : ℕ) (own : MessageParts) : Type 0 where
  pub declaration : Declaration
  pub among : Among declaration ds
  pub body : declaration.body ≡ of_message own
  pub is : declaration.index ≡ index

-- so is each of those among declarations, with the index that its place tells
pub message_declared : (o : Offsets) (ds : List Declaration) (p : Offsets) → AreCounted o ds p
    → (k : ℕ) (own : MessageParts) → slice_get (messages_in ds) k ≡ Some own
    → DeclaresMessage ds (o.messages + k) own
message_declared o [] p c k own at = absurd (cc at)
message_declared o (d ∷ ds) p c k own at =
    by d.body refl c.0 (λ j e. message_declared (past_one o d.body) ds p c.1 j own e) k at where
      later : (i j : ℕ) → i ≡ j → DeclaresMessage ds i own → DeclaresMessage (d ∷ ds) j own
      later i j same r = record {
        declaration = r.declaration;
        among = inr r.among;
        body = r.body;
        is = r.is ∙ same;
      }

      by : (b : Body) → d.body ≡ b → IsNext o d.index b
          → ((j : ℕ) → slice_get (messages_in ds) j ≡ Some own
          → DeclaresMessage ds ((past_one o b).messages + j) own)
          → (j : ℕ) → slice_get (message_in b ++ messages_in ds) j ≡ Some own
          → DeclaresMessage (d ∷ ds) (o.messages + j) own
      by (of_message m) is index rest zero e =
          let same : m ≡ own = cc e in
          record {
            declaration = d;
            among = inl refl;
            body = is ∙ ap of_message same;
            is = index ∙ zeroth o.messages;
          }
      by (of_message m) is index rest (suc j) e =
          later (o.messages + 1 + j) (o.messages + suc j) (next o.messages j) (rest j e)
      by b is index rest j e = later (o.messages + j) (o.messages + j) refl (rest j e)
