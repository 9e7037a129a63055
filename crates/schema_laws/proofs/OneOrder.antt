-- What the laws of order ask is so of schemas that the same files of sources made, and that sources of the same tokens did.
use Rattle.std.proofs.Common.{◌≡◌, ◌∙◌, List, Ok, map, ap, sym, subst}
use Rattle.std.specs.List.{Contains}
use Rattle.descriptor_records.specs.Content.{FileContent, file_view, unlocated}
use Rattle.option_parts.specs.TypedOptions.{typed_file}
use Rattle.protox_parse.specs.Answers.{IsAnswered}
use Rattle.schema_view.specs.Lawful.{SameFiles, sources}
use Rattle.schema_view.proofs.Lists.{contains_map, contains_map_cases}
use Rattle.schema_core.specs.Refusals.{SourcesLinked}
use Rattle.schema_core.specs.declared.schema.Schema.{Schema}
use Rattle.source_grammar.proofs.Answered.{same_record}
use Rattle.schema_laws.specs.Batches.{HaveSameFiles}
use Rattle.schema_laws.specs.Histories.{BatchLinked, IsMadeBy, Sources}
use Rattle.schema_laws.specs.SameSources.{AreSameSources, HaveTheirLike, given_in}
use Rattle.schema_laws.proofs.Histories.{came_about, history_of}
use Rattle.schema_laws.proofs.PlainNames.{undotted}
use Rattle.schema_laws.proofs.StayingSources.{ComeOf, come_in}

pub same_made : (batches others : List (List FileContent)) (s t : Schema) → IsMadeBy BatchLinked batches s → IsMadeBy BatchLinked others t
    → SameFiles (map unlocated (sources batches)) (map unlocated (sources others)) → HaveSameFiles batches others s t
same_made batches others s t made also same =
    let a = came_about batches s made in
    let b = came_about others t also in
    record { plain = undotted batches s made; same = same; first = a.typed; second = b.typed; pool = a.is; other_pool = b.is }

-- ---- sources of the same tokens

one_way : (batches others : List Sources) (xs ys : List FileContent) → ComeOf batches xs → ComeOf others ys → HaveTheirLike batches others
    → (f : FileContent) → Contains (map unlocated xs) f → Contains (map unlocated ys) f
one_way batches others xs ys come also like f i =
    let c = contains_map_cases unlocated xs f i in
    let s = come.from c.0 c.1 in
    let t = like s.0 s.1 in
    let d = also.to t.0 t.1 in
    let answered : IsAnswered s.0.0 t.0.1 (Ok d.2.file) = subst (λ name. IsAnswered name t.0.1 (Ok d.2.file)) (sym t.2) d.2.answered in
    let records : unlocated (file_view s.2.file) ≡ unlocated (file_view d.2.file) = same_record s.0.0 s.0.1 t.0.1 s.2.file d.2.file t.3 s.2.answered answered in
    let is : unlocated d.0 ≡ f = ap unlocated d.2.is ∙ ap typed_file (sym records) ∙ ap unlocated (sym s.2.is) ∙ c.2 in
    subst (Contains (map unlocated ys)) is (contains_map unlocated ys d.0 d.1)

same_files : (batches others : List Sources) (xs ys : List FileContent) → ComeOf batches xs → ComeOf others ys → AreSameSources batches others → SameFiles (map unlocated xs) (map unlocated ys)
same_files batches others xs ys come also same f = (one_way batches others xs ys come also same.0 f, one_way others batches ys xs also come same.1 f)

pub same_in_histories : (batches others : List (List FileContent)) (s t : Schema) (made : IsMadeBy BatchLinked batches s) (also : IsMadeBy BatchLinked others t)
    → AreSameSources (given_in batches s made) (given_in others t also) → SameFiles (map unlocated (sources batches)) (map unlocated (sources others))
same_in_histories batches others s t made also =
    same_files (given_in batches s made) (given_in others t also) (sources batches) (sources others) (come_in batches s made) (come_in others t also)

-- so schemas that sources of the same tokens made have histories of the same files
pub same_histories : (batches others : List Sources) (s t : Schema) → IsMadeBy SourcesLinked batches s → IsMadeBy SourcesLinked others t → AreSameSources batches others
    → (fs : List (List FileContent)) × (gs : List (List FileContent)) × IsMadeBy BatchLinked fs s × IsMadeBy BatchLinked gs t × SameFiles (map unlocated (sources fs)) (map unlocated (sources gs))
same_histories batches others s t made also same =
    let a : (fs : List (List FileContent)) × (made : IsMadeBy BatchLinked fs s) × (given_in fs s made ≡ batches) = history_of batches s made in
    let b : (gs : List (List FileContent)) × (made : IsMadeBy BatchLinked gs t) × (given_in gs t made ≡ others) = history_of others t also in
    let given : AreSameSources (given_in a.0 s a.1) (given_in b.0 t b.1) =
    subst (AreSameSources (given_in a.0 s a.1)) (sym b.2) (subst (λ (bs : List Sources). AreSameSources bs others) (sym a.2) same) in
    (a.0, b.0, a.1, b.1, same_in_histories a.0 b.0 s t a.1 b.1 given)

pub same_sources : (batches others : List Sources) (s t : Schema) → IsMadeBy SourcesLinked batches s → IsMadeBy SourcesLinked others t → AreSameSources batches others
    → (fs : List (List FileContent)) × (gs : List (List FileContent)) × HaveSameFiles fs gs s t
same_sources batches others s t made also same =
    let h = same_histories batches others s t made also same in
    (h.0, h.1, same_made h.0 h.1 s t h.2 h.3 h.4)
