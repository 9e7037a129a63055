-- What pools that were built batch by batch, and settled between the batches, say to texts.
use Rattle.std.proofs.Common.{◌≡◌, ◌∙◌, List, map, Option, ap, sym}
use Rattle.std.specs.List.{Contains}
use Rattle.descriptor_records.specs.Content.{Text, FileContent, file_view}
use Rattle.protobuf_model.specs.Types.{Name}
use Rattle.protobuf_model.specs.Values.{Message}
use Rattle.reflect_tables.specs.Types.{PoolType}
use Rattle.schema_view.specs.Lawful.{SameFiles, sources}
use Rattle.schema_view.specs.Plain.{IsPlainFile}
use Rattle.schema_view.specs.Views.{View, view_of}
use Rattle.schema_view.proofs.Batches.{same_view}
use Rattle.schema_view.proofs.Road.{built_linked}
use Rattle.types_view.specs.Pools.{IsKept}
use Rattle.linked_view.specs.Built.{IsBuilt}
use Rattle.types_view.proofs.Pools.{kept_before}
use Rattle.text_view.specs.Schemas.{schema_of}
use Rattle.types_view.specs.Fields.{TellsFields}
use Rattle.types_view.specs.Typed.{IsTyped}
use Rattle.texts_view.specs.Named.{schema_in}
use Rattle.texts_view.proofs.Names.{schema_same}

pub built_names : (batches : List (List FileContent)) (p : PoolType) → IsBuilt batches p → IsKept p
    → TellsFields p → (decoded : Name → Text → Option Message)
    → schema_of p decoded ≡ schema_in (view_of (map file_view p.records)) decoded
built_names batches p is kept tells =
    schema_same p (built_linked batches (map file_view p.records) is.built) tells is.values is.entries
    is.declared kept.names is.extensions

pub settled_names : (batches : List (List FileContent)) (p : PoolType) (t : IsTyped batches p)
    → IsKept p → (decoded : Name → Text → Option Message)
    → schema_of p decoded ≡ schema_in (view_of (map file_view t.but.linked.records)) decoded
settled_names batches p t kept decoded =
    let linked = t.but.linked in
    ap (λ q. schema_of q decoded) t.but.settles.settled
    ∙ built_names batches linked t.but.built (kept_before linked p t.but.settles kept) t.tells decoded

pub names_stay : (batches others : List (List FileContent)) (p q : PoolType)
    → ((f : FileContent) → Contains (sources batches) f → IsPlainFile f)
    → SameFiles (sources batches) (sources others)
    → IsTyped batches p → IsTyped others q → IsKept p → IsKept q
    → (decoded : Name → Text → Option Message) → schema_of p decoded ≡ schema_of q decoded
names_stay batches others p q plain same a b kept also decoded =
    settled_names batches p a kept decoded
    ∙ ap (λ (v : View). schema_in v decoded) (same_view batches others
    (map file_view a.but.linked.records) (map file_view b.but.linked.records) plain same
    a.but.built.built b.but.built.built)
    ∙ sym (settled_names others q b also decoded)
