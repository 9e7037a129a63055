-- Locations of one content move alike.
use Rattle.std.proofs.Common.{◌≡◌, ◌⊎◌, ◌<◌, ◌+◌, ◌++◌, ℕ, ℤ, List, [], ◌∷◌, map, drop, take, Option, Some, None, ap, refl, sym, subst, ◌∙◌, inl, inr}
use Rattle.std.proofs.lemmas.Option.{same_Some}
use Rattle.std.proofs.lemmas.Bool.{cases_order}
use Rattle.std.proofs.lemmas.List.{map-append}
use Rattle.std.specs.Option.{option_map}
use Rattle.descriptor_records.specs.Content.{FileContent, LocationContent, file_view, location_view, source_info_view}
use Rattle.descriptor_records.specs.declared.file.FileDescriptorProto.{FileDescriptorProto}
use Rattle.descriptor_records.specs.declared.source_info.Location.{Location}
use Rattle.descriptor_records.specs.declared.source_info.SourceCodeInfo.{SourceCodeInfo}
use Rattle.option_parts.specs.Moves.{EditsLocation, EditsLocations, MovesTo, Targets, place_32}
use Rattle.reflect_growth.specs.Put.{path_put}
use Rattle.reflect_growth.specs.declared.settle.Edit.{Edit}
use Rattle.reflect_faults.specs.Spans.{locations}
use Rattle.settled_records.proofs.Changes.{Change, change_of}
use Rattle.settled_records.proofs.Told.{head_is, tail_is}

-- ---- a path moves to one path
one_target : (targets : Targets) (path : List ℤ) (n m : ℕ) (target other : List ℤ) → n ≡ m → targets (take n path) ≡ Some target → targets (take m path) ≡ Some other → target ≡ other
one_target targets path n m target other same is are = same_Some target other (sym is ∙ ap (λ k. targets (take k path)) same ∙ are)

moves_to_one : (targets : Targets) (path : List ℤ) (a b : Option (List ℤ)) → MovesTo targets path a → MovesTo targets path b → a ≡ b
moves_to_one targets path None None stays rests = refl
moves_to_one targets path None (Some b) stays (len, target, front, is, first) = absurd (stays len target front)
moves_to_one targets path (Some a) None (len, target, front, is, first) rests = absurd (rests len target front)
moves_to_one targets path (Some a) (Some b) (len, target, front, is, first) (size, other, begin, are, earliest) = by (cases_order len size)
  where
    by : (len ≡ size) ⊎ ((len < size) ⊎ (size < len)) → Some a ≡ Some b
    by (inl same) =
        let e : target ≡ other = one_target targets path len size target other same front.2 begin.2 in
        ap Some (is ∙ (λ i. e i ++ drop (same i) path) ∙ sym are)
    by (inr (inl less)) = absurd (earliest len target less front)
    by (inr (inr more)) = absurd (first size other more begin)

-- ---- edits of locations
location_alike : (i j place : ℕ) (a b : Option (List ℤ)) (es ds : List Edit) → a ≡ b → EditsLocation i place a es → EditsLocation j place b ds → map change_of es ≡ map change_of ds
location_alike i j place None None es ds same none nil = ap (map change_of) (none ∙ sym nil)
location_alike i j place None (Some b) es ds same none put = absurd (cc same)
location_alike i j place (Some a) None es ds same put none = absurd (cc same)
location_alike i j place (Some a) (Some b) es ds same (path, items, single) (way, things, sole) =
    let e : path.items ≡ way.items = items ∙ same_Some a b same ∙ sym things in
    let change : List ℤ → List Change = λ p. path_put (place_32 place) p ∷ [] in
    ap (map change_of) single ∙ ap change e ∙ sym (ap (map change_of) sole)

-- the edits of locations read no more of them than their paths
pub locations_alike : (targets : Targets) (i j place : ℕ) (ls ks : List Location) (es ds : List Edit) → map location_view ls ≡ map location_view ks
    → EditsLocations targets i place ls es → EditsLocations targets j place ks ds → map change_of es ≡ map change_of ds
locations_alike targets i j place [] [] es ds same none nil = ap (map change_of) (none ∙ sym nil)
locations_alike targets i j place [] (k ∷ ks) es ds same none put = absurd (cc same)
locations_alike targets i j place (l ∷ ls) [] es ds same put none = absurd (cc same)
locations_alike targets i j place (l ∷ ls) (k ∷ ks) es ds same (moved, own, rest, to, edit, others, is) (went, mine, more, way, put, remain, are) =
    let path : l.path.items ≡ k.path.items = ap (λ (v : LocationContent). v.path) (head_is (location_view l) (location_view k) (map location_view ls) (map location_view ks) same) in
    let target : moved ≡ went = moves_to_one targets l.path.items moved went to (subst (λ p. MovesTo targets p went) (sym path) way) in
    let first : map change_of own ≡ map change_of mine = location_alike i j place moved went own mine target edit put in
    let behind : map change_of rest ≡ map change_of more =
    locations_alike targets i j (place + 1) ls ks rest more (tail_is (location_view l) (location_view k) (map location_view ls) (map location_view ks) same) others remain in
    ap (map change_of) is ∙ map-append change_of own rest ∙ (λ i. first i ++ behind i) ∙ sym (map-append change_of mine more) ∙ sym (ap (map change_of) are)

-- ---- locations of one content
abbrev listed : Option (List LocationContent) → List LocationContent
listed None = []
listed (Some ls) = ls

-- the locations of a file are those of its content
locations_seen : (x : Option SourceCodeInfo) → map location_view (elim x [ None ↦ [] | Some info ↦ info.location.items ]) ≡ listed (option_map source_info_view x)
locations_seen None = refl
locations_seen (Some info) = refl

pub same_locations : (f g : FileDescriptorProto) → file_view f ≡ file_view g → map location_view (locations f) ≡ map location_view (locations g)
same_locations f g same = locations_seen f.source_code_info ∙ ap (λ (v : FileContent). listed v.source_code_info) same ∙ sym (locations_seen g.source_code_info)
