-- What a view finds of linked files where it is declared, and where a pool has its entry.
use Rattle.std.proofs.Common.{◌≡◌, ◌≤◌, ◌∙◌, ℕ, suc, Bool, true, false, cond, bytes_eq, List, [], ◌∷◌, ◌⊎◌, inl, inr, Option, Some, None, length, slice_get, ap, sym, subst, refl, arith}
use Rattle.std.specs.List.{Contains}
use Rattle.std.specs.Option.{option_and_then, option_map}
use Rattle.std.proofs.lemmas.Slice.Eq.{bytes_eq-Decides}
use Rattle.descriptor_records.specs.Content.{Text, FileContent}
use Rattle.reflect_tables.specs.Types.{MessageType}
use Rattle.schema_view.specs.Declarations.{Declaration, declarations}
use Rattle.schema_view.specs.Files.{file_name, is_proto3}
use Rattle.schema_view.specs.Outlines.{Outline, outline_of}
use Rattle.schema_view.specs.Types.{body_at, is_proto3_at, says_proto3}
use Rattle.schema_view.specs.Views.{FileFacts, Held, file_at, facts_of, when, view_of}
use Rattle.schema_view.proofs.Lists.{contains_cases, contains_none, first_from, one_of, sum_map}
use Rattle.schema_view.proofs.Looking.{file_there, looked_up}
use Rattle.schema_view.proofs.Orders.{when_true}
use Rattle.schema_view.proofs.Road.{AreLinked}
use Rattle.message_view.specs.Types.{place_in}

-- ---- declarations

module _ (fs : List FileContent) (l : AreLinked fs) (f : FileContent) (d : Declaration)
    (there : Contains fs f) (inside : Contains (declarations f) d) where
  pub body_found : body_at (view_of fs) d.name ≡ Some d.body
  body_found = ap (option_map (λ (h : Held). h.body)) (looked_up fs l f d there inside)

  weighs : (b : Bool) → b ≡ true → ◌≡◌ {A = ℕ} 1 (cond b 1 0)
  weighs true e = refl
  weighs false e = absurd (cc e)

  -- files of one name are one
  one_file : (g : FileContent) → Contains fs g → file_name g ≡ file_name f → g ≡ f
  one_file g i e =
      let n = file_name f in
      let w : FileContent → ℕ = λ x. cond (bytes_eq (file_name x) n) 1 0 in
      let few = l.apart.files n in
      let sum = sum_map (λ (o : Outline). cond (bytes_eq o.name n) 1 0) outline_of fs in
      let first = weighs (bytes_eq (file_name g) n) ((bytes_eq-Decides (file_name g) n).1 e) in
      let second = weighs (bytes_eq n n) ((bytes_eq-Decides n n).1 refl) in
      one_of w fs g f (subst (λ k. k ≤ 1) sum few) i there (subst (λ k. 1 ≤ k) first (omega arith))
      (subst (λ k. 1 ≤ k) second (omega arith))

  when_is : (b : Bool) (x y : FileFacts) → when b x ≡ Some y → x ≡ y
  when_is true x y e = cc
  when_is false x y e = absurd (cc e)

  file_found : (view_of fs).files (file_name f) ≡ Some (facts_of f)
  file_found =
      let n = file_name f in
      let x = file_there fs f there in
      let g = first_from (file_at n) fs x.0 x.1 in
      let named = (bytes_eq-Decides (file_name g.0) n).0 (when_true _ (facts_of g.0) x.0 g.2) in
      x.1 ∙ ap Some (sym (when_is _ (facts_of g.0) x.0 g.2) ∙ ap facts_of (one_file g.0 g.1 named))

  abbrev proto3_in : Option FileFacts → Bool
  proto3_in o = elim o [ None ↦ false | Some x ↦ says_proto3 x ]

  pub proto3_found : is_proto3_at (view_of fs) d.name ≡ is_proto3 f
  proto3_found =
      ap (λ o. proto3_in (option_and_then (λ (h : Held). (view_of fs).files h.file) o))
      (looked_up fs l f d there inside)
      ∙ ap proto3_in file_found

-- ---- messages of a pool

-- a message of the name stands at its place, or none has the name
pub record StandsAt (ms : List MessageType) (t : Text) : Type 0 where
  pub type : MessageType
  pub at : slice_get ms (place_in ms t) ≡ Some type
  pub name : type.full_name ≡ t

pub record StandsNowhere (ms : List MessageType) (t : Text) : Type 0 where
  pub end : place_in ms t ≡ length ms
  pub none : (m : MessageType) → Contains ms m → m.full_name ≡ t → ⊥

pub stands : (ms : List MessageType) (t : Text) → StandsAt ms t ⊎ StandsNowhere ms t
stands [] t = inr (record { end = refl; none = λ m i e. contains_none m i })
stands (m ∷ ms) t = by (bytes_eq m.full_name t) refl (stands ms t) where
  by : (b : Bool) → bytes_eq m.full_name t ≡ b → StandsAt ms t ⊎ StandsNowhere ms t
      → StandsAt (m ∷ ms) t ⊎ StandsNowhere (m ∷ ms) t
  by true is rest = inl (record {
    type = m;
    at = ap (λ b. slice_get (m ∷ ms) (cond b 0 (suc (place_in ms t)))) is;
    name = (bytes_eq-Decides m.full_name t).0 is;
  })
  by false is (inl s) = inl (record {
    type = s.type;
    at = ap (λ b. slice_get (m ∷ ms) (cond b 0 (suc (place_in ms t)))) is ∙ s.at;
    name = s.name;
  })
  by false is (inr s) =
      let rest = s.end in
      let here : place_in (m ∷ ms) t ≡ suc (place_in ms t) =
      ap (λ b. cond b 0 (suc (place_in ms t))) is in
      inr (record {
        end = here ∙ omega (arith, rest);
        none = λ q i e. elim (contains_cases m ms q i) [
          | inl same ↦ absurd (cc (sym is
              ∙ (bytes_eq-Decides m.full_name t).1 (ap (λ (x : MessageType). x.full_name) same ∙ e)))
          | inr j ↦ s.none q j e
        ];
      })
