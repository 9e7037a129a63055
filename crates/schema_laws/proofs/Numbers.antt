-- Pools of the same records keep the same numbers for extensions, by names of messages.
use Rattle.std.proofs.Common.{◌≡◌, ℕ, List, [], ◌∷◌, map, refl, sym, ap, ◌∙◌, subst}
use Rattle.std.proofs.lemmas.Option.{same_Some}
use Rattle.std.specs.List.{list_any}
use Rattle.descriptor_records.specs.Content.{Text, FileContent, extension_range_view, file_view}
use Rattle.descriptor_records.specs.declared.file.FileDescriptorProto.{FileDescriptorProto}
use Rattle.descriptor_records.specs.declared.message.DescriptorProto.{DescriptorProto}
use Rattle.descriptor_records.specs.declared.message.DescriptorProto.TheViews.{out-DescriptorProto}
use Rattle.message_view.specs.Types.{name_at}
use Rattle.option_parts.specs.OptionTypes.{KeepsExtensions, is_custom}
use Rattle.reflect_build.specs.Accepted.{FaultlessFiles}
use Rattle.reflect_build.specs.Refusals.{new_files}
use Rattle.reflect_link.specs.Lent.{IsMessageOf}
use Rattle.reflect_link.specs.Reserved.{bound_of, extension_bounds}
use Rattle.reflect_pool.specs.Linked.{empty_pool}
use Rattle.reflect_pool.specs.Records.{message_along}
use Rattle.reflect_tables.specs.Types.{PoolType, type_at}
use Rattle.linked_view.specs.Pools.{IsPool}
use Rattle.linked_view.proofs.Together.{built_more, empty_built}
use Rattle.settled_view.specs.BuiltBut.{ChangesOptions}
use Rattle.schema_view.specs.Declarations.{MessageFacts, Range, extension_range, of_message}
use Rattle.schema_view.proofs.Renames.{map_same}
use Rattle.schema_view.proofs.Road.{AreLinked, built_linked}
use Rattle.types_view.proofs.Found.{body_found}
use Rattle.schema_laws.specs.ToldMessages.{Declare, KeepAlike, TellsMessages, ranges_of}
use Rattle.schema_laws.proofs.Keepings.{settled_keep}
use Rattle.schema_laws.proofs.Stays.{record_stays}

-- ---- the record of a message

abbrev bounds_of : Range → ℕ × ℕ
bounds_of r = (bound_of r.start, bound_of r.end)

-- whether all numbers from 1000 on are kept is told by the numbers that are
custom_by : (r s : DescriptorProto) → ranges_of r ≡ ranges_of s
    → list_any is_custom (map extension_bounds (out-DescriptorProto r).extension_range.items)
    ≡ list_any is_custom (map extension_bounds (out-DescriptorProto s).extension_range.items)
custom_by r s same =
    let bounds = map_same bounds_of (λ x. extension_range (extension_range_view x)) extension_bounds
    (λ x. refl) in
    ap (list_any is_custom) (sym (bounds (out-DescriptorProto r).extension_range.items)
    ∙ ap (map bounds_of) same ∙ bounds (out-DescriptorProto s).extension_range.items)

-- a message has one record
one_record : (p : PoolType) (i : ℕ) (r s : DescriptorProto) → IsMessageOf p i r → IsMessageOf p i s
    → r ≡ s
one_record p i r s a b =
    let files : a.0.of_file ≡ b.0.of_file =
    same_Some a.0.of_file b.0.of_file (sym a.0.there ∙ b.0.there) in
    let owns : a.0.own ≡ b.0.own = same_Some a.0.own b.0.own (sym a.0.at
    ∙ ap (λ f. message_along f (type_at p i).path) files ∙ b.0.at) in
    sym a.1 ∙ owns ∙ b.1

-- ---- one name, one message

body_same : (a b : MessageFacts) → of_message a ≡ of_message b → a ≡ b
body_same a b e = cc e

-- linked files declare one message under a name
one_declared : (fs : List FileContent) → AreLinked fs → (full : Text) (r s : DescriptorProto)
    → Declare fs full r → Declare fs full s → ranges_of r ≡ ranges_of s
one_declared fs linked full r s a b =
    let bodies = same_Some (of_message a.facts) (of_message b.facts)
    (sym (body_found fs linked a.file (record { name = full; body = of_message a.facts }) a.there
    a.inside)
    ∙ body_found fs linked b.file (record { name = full; body = of_message b.facts }) b.there
    b.inside) in
    sym a.ranges
    ∙ ap (λ (m : MessageFacts). map extension_range m.extensions) (body_same a.facts b.facts bodies)
    ∙ b.ranges

pub keep_linked : (p q : PoolType) → TellsMessages p → TellsMessages q
    → AreLinked (map file_view q.records) → map file_view p.records ≡ map file_view q.records
    → KeepAlike p q
keep_linked p q tells also linked same i k lt less names (r, own, custom) =
    let x = tells i lt in
    let y = also k less in
    let told : Declare (map file_view q.records) (name_at q k) x.0 =
    subst (λ fs. Declare fs (name_at q k) x.0) same
    (subst (λ n. Declare (map file_view p.records) n x.0) names x.2) in
    let ranges = one_declared (map file_view q.records) linked (name_at q k) x.0 y.0 told y.2 in
    let first : ranges_of r ≡ ranges_of y.0 =
    ap ranges_of (one_record p i r x.0 own x.1) ∙ ranges in
    (y.0, y.1, sym (custom_by r y.0 first) ∙ custom)

pub keep_alike : (p q : PoolType) (files : List FileDescriptorProto) → TellsMessages p
    → TellsMessages q → FaultlessFiles empty_pool files q → IsPool q
    → map file_view p.records ≡ map file_view q.records → KeepAlike p q
keep_alike p q files tells also faultless whole same =
    let built = built_more [] empty_pool q files empty_built whole.recorded whole.indexed whole.kept
    faultless in
    keep_linked p q tells also (built_linked (map file_view (new_files built.0.indexes files) ∷ [])
    (map file_view q.records) built.2.built) same

-- ---- options that were settled

-- where they were, each message keeps the numbers that it kept
pub settled_keeps : (linked new : PoolType) → ChangesOptions linked new → (i : ℕ)
    → KeepsExtensions linked i → KeepsExtensions new i
settled_keeps linked new s i (r, own, custom) =
    let settled : PoolType = record linked { records = new.records } in
    let x = record_stays linked settled (settled_keep linked.records new.records (sym s.bare))
    (type_at linked i) r own in
    let keeps : KeepsExtensions settled i =
    (x.own, x.stands, sym (custom_by r x.own x.ranges) ∙ custom) in
    subst (λ p. KeepsExtensions p i) (sym s.settled) keeps
