-- What is written into records where references are given their full names, and what stays.
use Rattle.std.specs.Prelude.{ℤ, pos, List, [], ◌∷◌, map, Option, Some, None}
use Rattle.std.specs.Vec.Iter.{into_iter_items}
use Rattle.std.specs.declared.alloc.Global.{Global}
use Rattle.std.specs.declared.vec.IntoIter.{IntoIter}
use Rattle.descriptor_records.specs.Content.{Text, FieldContent, MethodContent, ServiceContent, MessageContent, message, MessageContents, no_messages, more_messages, FileContent}
use Rattle.reflect_scope.specs.declared.definition.DefinitionKind.{DefinitionKind}
use Rattle.reflect_scope.specs.declared.definition.DefinitionKind.TheVariants as kind
use Rattle.reflect_names.specs.References.{Target}
use Rattle.reflect_names.specs.ReferenceSteps.{target_of}
use Rattle.reflect_names.specs.declared.resolve_visitor.Reference.{Reference}

-- what is meant by the references that are not written yet
abbrev pub names_left : IntoIter Reference Global → List Target
names_left rest = map target_of (into_iter_items rest)

-- something with its names written, and what is left behind it
abbrev pub Rewrites : Type 0 → Type 0
Rewrites A = List Target → A → A × List Target

-- the next full name in place of a name, where there is one
abbrev pub write_name : Rewrites (Option Text)
write_name ts None = (None, ts)
write_name [] (Some name) = (Some name, [])
write_name (t ∷ ts) (Some name) = (Some t.0, ts)

-- the type of a field whose type name means this, where its record says none
abbrev pub filled : Option ℤ → DefinitionKind → Option ℤ
filled (Some n) k = Some n
filled None (kind.Enum i) = Some (pos 14)
filled None _ = Some (pos 11)

abbrev pub write_type : Rewrites FieldContent
write_type ts f = elim f.type_name [
  | None ↦ (f, ts)
  | Some name ↦ elim ts [
    | [] ↦ (f, [])
    | t ∷ more ↦ (
      record f { field_type = filled f.field_type t.1.kind; type_name = Some t.0 },
      more,
    )
  ]
]

abbrev pub write_extension : Rewrites FieldContent
write_extension ts x =
    write_type (write_name ts x.extendee).1 (record x { extendee = (write_name ts x.extendee).0 })

-- one after another
abbrev pub write_each : {A : Type 0} → Rewrites A → List Target → List A → List A × List Target
write_each one ts [] = ([], ts)
write_each one ts (x ∷ xs) =
    ((one ts x).0 ∷ (write_each one (one ts x).1 xs).0, (write_each one (one ts x).1 xs).1)

-- a message's fields, its messages, its extensions
abbrev mutual
  pub write_message : List Target → MessageContent → MessageContent × List Target
  write_message ts (message name field extension nested enums ranges oneofs options reserved
      names) =
      let fields = write_each write_type ts field in
      let inner = write_messages fields.1 nested in
      let extensions = write_each write_extension inner.1 extension in (
        message name fields.0 extensions.0 inner.0 enums ranges oneofs options reserved names,
        extensions.1,
      )

  pub write_messages : List Target → MessageContents → MessageContents × List Target
  write_messages ts no_messages = (no_messages, ts)
  write_messages ts (more_messages m ms) = (
    more_messages (write_message ts m).0 (write_messages (write_message ts m).1 ms).0,
    (write_messages (write_message ts m).1 ms).1,
  )

abbrev pub write_method : Rewrites MethodContent
write_method ts m =
    let input = write_name ts m.input_type in
    let output = write_name input.1 m.output_type in
    (record m { input_type = input.0; output_type = output.0 }, output.1)

abbrev pub write_service : Rewrites ServiceContent
write_service ts s =
    let methods = write_each write_method ts s.method in
    (record s { method = methods.0 }, methods.1)

abbrev pub write_file : Rewrites FileContent
write_file ts f =
    let messages = write_each write_message ts f.message_type in
    let services = write_each write_service messages.1 f.service in
    let extensions = write_each write_extension services.1 f.extension in (
      record f { message_type = messages.0; service = services.0; extension = extensions.0 },
      extensions.1,
    )

-- the files with the names that their references mean
abbrev pub written : List Reference → List FileContent → List FileContent
written rs fs = (write_each write_file (map target_of rs) fs).0
