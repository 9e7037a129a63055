-- Which types of maps' entries files declare where they are linked: older ones are declared by
-- older files, by what is stored of them, and new files do not use them.
use Rattle.std.proofs.Common.{◌≡◌, ◌<◌, ◌∙◌, ◌&&◌, inl, inr, ℕ, Bool, true, false, is_some, nat_lt, List, ◌++◌, Option, Some, None, map, slice_get, ap, sym, subst, arith}
use Rattle.std.proofs.lemmas.Bool.{and_parts}
use Rattle.std.specs.List.{Contains}
use Rattle.std.proofs.lemmas.List.{length-map}
use Rattle.std.proofs.lemmas.List.Elements.{Contains-append_left, Contains-append_right}
use Rattle.descriptor_records.specs.Content.{Text, FileContent, file_view}
use Rattle.descriptor_records.specs.declared.file.FileDescriptorProto.{FileDescriptorProto}
use Rattle.reflect_build.specs.Refusals.{Linking, IsOf}
use Rattle.reflect_passes.specs.Linked.{linked_says, message_at}
use Rattle.reflect_passes.specs.declared.linked_types.LinkedTypes.{LinkedTypes}
use Rattle.reflect_pool.specs.Stored.{SaysEntry as MarksEntry}
use Rattle.reflect_scope.specs.Known.{Known}
use Rattle.reflect_scope.specs.declared.definition.Definition.{Definition}
use Rattle.reflect_scope.specs.declared.definition.DefinitionKind.TheVariants as kind
use Rattle.reflect_tables.specs.Names.{FullName, AreFound, found, message_name, messages, names_of, place_in, place_of, with_file}
use Rattle.reflect_tables.specs.Types.{MessageType, PoolType}
use Rattle.reflect_tables.specs.Views.{message_of}
use Rattle.reflect_tables.specs.declared.stored.StoredMessage.{StoredMessage}
use Rattle.reflect_tables.specs.declared.tables.Tables.{Tables}
use Rattle.reflect_tables.proofs.Founds.{front}
use Rattle.reflect_declarations.specs.Declarations as walk
use Rattle.reflect_walk.specs.MapEntries.{says_entry}
use Rattle.reflect_declarations.specs.Tree.{MessageParts}
use Rattle.reflect_index.proofs.Among.{got_map}
use Rattle.schema_view.specs.Declarations.{of_message, declarations}
use Rattle.schema_view.specs.Lawful.{IsOneMap, Meanings, all_linked}
use Rattle.schema_view.specs.References.{Reference, Target, dotted, linked}
use Rattle.schema_view.proofs.Lists.{contains_map}
use Rattle.schema_view.proofs.Renames.{rename_body, renamed, declarations_renamed}
use Rattle.schema_view.proofs.Road.{AreLinked}
use Rattle.linked_view.specs.Entries.{DeclaresEntry, HasDeclaredEntries}
use Rattle.linked_view.proofs.Defaulted.{both_at, split_at}
use Rattle.linked_view.proofs.Named.{in_all}
use Rattle.linked_view.proofs.Places.{get_contains}
use Rattle.linked_view.proofs.Shapes.{entry_to}
use Rattle.linked_view.proofs.Shown.{IsShown}
use Rattle.linked_view.proofs.Unused.{Unused, map_left_only}
use Rattle.linked_view.proofs.Walked.{facts_in, seen_body}

pub entry_once : (fs : List FileContent) → AreLinked fs → (full : Text) → DeclaresEntry fs full
    → IsOneMap fs full
entry_once fs linked full e = subst (IsOneMap fs) e.name
    (linked.together.entries e.file e.message e.facts e.there e.inside e.body e.says)

declares_among : (fs gs : List FileContent) (full : Text)
    → ((f : FileContent) → Contains fs f → Contains gs f) → DeclaresEntry fs full
    → DeclaresEntry gs full
declares_among fs gs full among e = record {
  file = e.file;
  message = e.message;
  facts = e.facts;
  there = among e.file e.there;
  inside = e.inside;
  name = e.name;
  body = e.body;
  says = e.says;
}

pub declares_more : (a b : List FileContent) (full : Text) → DeclaresEntry a full
    → DeclaresEntry (a ++ b) full
declares_more a b full = declares_among a (a ++ b) full (Contains-append_left a b)

pub declares_behind : (a b : List FileContent) (full : Text) → DeclaresEntry b full
    → DeclaresEntry (a ++ b) full
declares_behind a b full = declares_among b (a ++ b) full (Contains-append_right a b)

-- what files declare so is declared in the linked files too
pub declares_linked : (meanings : Meanings) (first : ℕ) (fs : List FileDescriptorProto)
    (d : walk.Declaration) → IsShown first fs d → (own : MessageParts)
    → d.body ≡ walk.of_message own → says_entry own.options ≡ true
    → DeclaresEntry (all_linked meanings (map file_view fs)) d.name
declares_linked meanings first fs d s own body says =
    let content = file_view s.own in
    let namings : Reference → Target = λ r. dotted (meanings content r) in
    let x = s.shown (of_message (facts_in own)) (ap seen_body body) in
    record {
      file = linked (meanings content) content;
      message = renamed namings x.0;
      facts = facts_in own;
      there = contains_map (λ (f : FileContent). linked (meanings f) f) (map file_view fs) content
          (contains_map file_view fs s.own (get_contains fs s.place s.own s.at));
      inside = subst (λ l. Contains l (renamed namings x.0))
          (sym (declarations_renamed namings content))
          (contains_map (renamed namings) (declarations content) x.0 x.1);
      name = x.2;
      body = ap (rename_body namings x.0.name) x.3;
      says = entry_to own.options says;
    }

abbrev pub marks_by : Option StoredMessage → Bool
marks_by o = elim o [ None ↦ false | Some m ↦ m.is_entry ]

-- an older message among all
pub older_at : (w : Linking) (t : LinkedTypes) → t.old.now ≡ w.tables → (i : ℕ) (m : StoredMessage)
    → slice_get w.tables.messages.items i ≡ Some m → message_at t i ≡ Some m
older_at w t tables i m e =
    let olds = t.old.now.messages.items in
    let news = t.new.now.messages.items in
    both_at olds news i m (front olds news i m
    (ap (λ (x : Tables). slice_get x.messages.items i) tables ∙ e))

module _ (old : PoolType) (w : Linking) (is : IsOf old w) (declared : HasDeclaredEntries old)
    (t : LinkedTypes) (tables : t.old.now ≡ w.tables) where
  abbrev given : List FileContent
  given = map file_view old.records

  -- what is stored as one is declared as one
  older_declared : (i file : ℕ) (full : Text) → slice_get (names_of old messages) i ≡ Some (full, file)
      → (linked_says t).is_entry i ≡ true → DeclaresEntry given full
  older_declared i file full named entry =
      let stored = w.tables.messages.items in
      let m = got_map message_name old.messages i (full, file) named in
      let s = got_map message_of stored i m.0
      (ap (λ (p : PoolType). slice_get p.messages i) is.tables ∙ m.1) in
      let says : s.0.is_entry ≡ true = sym (ap marks_by (older_at w t tables i s.0 s.1)) ∙ entry in
      let marks : s.0.is_entry ≡ is_some s.0.entry =
      in_all MarksEntry stored is.stored.entries s.0 (get_contains stored i s.0 s.1) in
      let parts : is_some m.0.entry ≡ true =
      sym (ap (λ (x : MessageType). is_some x.entry) s.2) ∙ sym marks ∙ says in
      subst (DeclaresEntry given) (ap (λ (n : FullName). n.0) m.2)
      (declared m.0 (get_contains old.messages i m.0 m.1) parts)

  -- and no new file uses it
  pub older_unused : (more : List FullName) (known : Known)
      → AreFound (found messages known) (names_of old messages ++ more) → (new : List FileContent)
      → AreLinked given → AreLinked (given ++ new) → (i : ℕ) (full : Text) (d : Definition)
      → known full ≡ Some d → d.kind ≡ kind.Message i
      → (nat_lt i w.before.messages && (linked_says t).is_entry i) ≡ true → Unused full new
  older_unused more known stand new before after i full d knows same both =
      let parts = and_parts (nat_lt i w.before.messages) ((linked_says t).is_entry i) both in
      let here : slice_get (names_of old messages ++ more) i ≡ Some (full, d.file) =
      (stand full i d.file).0
      (ap (place_in messages) knows ∙ ap (λ k. with_file d (place_of messages k)) same) in
      let early = parts.0 in
      let count = is.before.messages in
      let all = length-map old.messages message_name in
      let named : slice_get (names_of old messages) i ≡ Some (full, d.file) =
      elim (split_at (names_of old messages) more i (full, d.file) here) [
        | inl h ↦ h
        | inr r ↦ (
            let place = r.1 in
            let less : i < w.before.messages = grind (arith, early) in
            absurd (omega (arith, place, less, count, all)))
      ] in
      let e = older_declared i d.file full named parts.1 in
      map_left_only full given new (entry_once given before full e)
      (entry_once (given ++ new) after full (declares_more given new full e))
