-- What is said of files is said of more files, too; what a name means, where nothing else is added.
use Rattle.std.proofs.Common.{◌≡◌, List, [], ◌∷◌, inl, inr, Bool, true, false, eqb}
use Rattle.std.specs.Prelude.{MatchBool}
use Rattle.std.specs.List.{Contains}
use Rattle.descriptor_records.specs.Content.{Text}
use Rattle.schema_view.specs.Files.{join}
use Rattle.schema_view.specs.Declarations.{Body, of_message, of_field, of_oneof, of_enum, of_value, of_service, of_method, of_extension}
use Rattle.schema_view.specs.References.{Want, Reference, Target}
use Rattle.schema_view.specs.Outlines.{Sort, Outline, IsNamed, IsDeclared, IsChain, Sees, IsPackage}
use Rattle.schema_view.specs.Means.{IsWanted, HoldsNames, has_dot, first_part, MeansUndotted, MeansDotted, MeansPlain, MeansBy, ReferenceMeans}
use Rattle.schema_view.specs.Lawful.{KeepsNumber, SuitsEnum, IsSettled}

abbrev pub Within : List Outline → List Outline → Type 0
Within os ps = (o : Outline) → Contains os o → Contains ps o

pub named_within : (os ps : List Outline) → Within os ps → (n : Text) → IsNamed os n → IsNamed ps n
named_within os ps there n (o, i, e) = (o, there o i, e)

pub chain_within : (os ps : List Outline) → Within os ps → (ks : List Text) (m n : Text) → IsChain os m ks n → IsChain ps m ks n
chain_within os ps there [] m n h = h
chain_within os ps there (k ∷ ks) m n ((o, i, e, p), rest) = ((o, there o i, e, p), chain_within os ps there ks k n rest)

pub sees_within : (os ps : List Outline) → Within os ps → (from : Outline) (n : Text) → Sees os from n → Sees ps from n
sees_within os ps there from n (inl e) = inl e
sees_within os ps there from n (inr (i, ks, c, h)) = inr (i, ks, c, chain_within os ps there ks i.file n h)

pub wanted_within : (os ps : List Outline) → Within os ps → (from : Outline) (w : Want) (full : Text) → IsWanted os from w full → IsWanted ps from w full
wanted_within os ps there from w full (o, h, i, j, e, is, sees) = (o, h, there o i, j, e, is, sees_within os ps there from o.name sees)

pub package_within : (os ps : List Outline) → Within os ps → (n : Text) → IsPackage os n → IsPackage ps n
package_within os ps there n (o, i, s) = (o, there o i, s)

pub holds_within : (os ps : List Outline) → Within os ps → (n : Text) → HoldsNames os n → HoldsNames ps n
holds_within os ps there n (inl p) = inl (package_within os ps there n p)
holds_within os ps there n (inr (o, h, i, j, e, is)) = inr (o, h, there o i, j, e, is)

pub declared_within : (os ps : List Outline) → Within os ps → (full : Text) (s : Sort) → IsDeclared os full s → IsDeclared ps full s
declared_within os ps there full s (o, h, i, j, e, is) = (o, h, there o i, j, e, is)

keeps_within : (os ps : List Outline) → Within os ps → (b : Body) → KeepsNumber os b → KeepsNumber ps b
keeps_within os ps there (of_extension x) k = λ full n e is. let r = k full n e is in (r.0, r.1, declared_within os ps there full _ r.2, r.3, r.4)
keeps_within os ps there (of_message m) k = k
keeps_within os ps there (of_field f) k = k
keeps_within os ps there (of_oneof o) k = k
keeps_within os ps there (of_enum e) k = k
keeps_within os ps there (of_value v) k = k
keeps_within os ps there (of_service s) k = k
keeps_within os ps there (of_method m) k = k

suits_within : (os ps : List Outline) → Within os ps → (b : Body) → SuitsEnum os b → SuitsEnum ps b
suits_within os ps there (of_extension x) k = λ text full e is. let r = k text full e is in (r.0, declared_within os ps there full _ r.1, r.2)
suits_within os ps there (of_field f) k = λ text full e is. let r = k text full e is in (r.0, declared_within os ps there full _ r.1, r.2)
suits_within os ps there (of_message m) k = k
suits_within os ps there (of_oneof o) k = k
suits_within os ps there (of_enum e) k = k
suits_within os ps there (of_value v) k = k
suits_within os ps there (of_service s) k = k
suits_within os ps there (of_method m) k = k

pub settled_within : (os ps : List Outline) → Within os ps → (b : Body) → IsSettled os b → IsSettled ps b
settled_within os ps there b s = record { numbers = keeps_within os ps there b s.numbers; defaults = suits_within os ps there b s.defaults }

pub match_map : (b : Bool) (P Q R S : Type 0) → (P → R) → (Q → S) → MatchBool b P Q → MatchBool b R S
match_map true P Q R S f g h = f h
match_map false P Q R S f g h = g h

module _ (W H V G : Text → Type 0) (to : (n : Text) → W n → V n) (from : (n : Text) → V n → W n) (hold : (n : Text) → G n → H n) (held : (n : Text) → H n → G n) where
  undotted_same : (scope name full : Text) → MeansUndotted W H scope name full → MeansUndotted V G scope name full
  undotted_same scope name full (p, s, e, w, none) = (p, s, e, to full w, λ q sq lt v. none q sq lt (from (join q name) v))

  dotted_same : (scope name full : Text) → MeansDotted W H scope name full → MeansDotted V G scope name full
  dotted_same scope name full (p, s, e, w, h, none) = (p, s, e, to full w, held (join p (first_part name)) h, λ q sq lt g. none q sq lt (hold (join q (first_part name)) g))

  plain_same : (scope name full : Text) → MeansPlain W H scope name full → MeansPlain V G scope name full
  plain_same scope name full h =
      match_map (has_dot name) (MeansDotted W H scope name full) (MeansUndotted W H scope name full) (MeansDotted V G scope name full) (MeansUndotted V G scope name full)
      (dotted_same scope name full) (undotted_same scope name full) h

  pub means_by_same : (scope name full : Text) → MeansBy W H scope name full → MeansBy V G scope name full
  means_by_same scope [] full h = plain_same scope [] full h
  means_by_same scope (b ∷ name) full h =
      match_map (eqb b 46) ((full ≡ name) × W name) (MeansPlain W H scope (b ∷ name) full) ((full ≡ name) × V name) (MeansPlain V G scope (b ∷ name) full)
      (λ r. (r.0, to name r.1)) (plain_same scope (b ∷ name) full) h

-- the same files in another order
pub means_same : (os ps : List Outline) → Within os ps → Within ps os → (from : Outline) (r : Reference) (t : Target) → ReferenceMeans os from r t → ReferenceMeans ps from r t
means_same os ps there back from r t h = record {
  named = means_by_same (IsWanted os from r.want) (HoldsNames os) (IsWanted ps from r.want) (HoldsNames ps)
      (wanted_within os ps there from r.want) (wanted_within ps os back from r.want) (holds_within ps os back) (holds_within os ps there) r.scope r.name t.name h.named;
  typed = (h.typed.0, declared_within os ps there t.name h.typed.0 h.typed.1, h.typed.2);
  suits = h.suits;
}
