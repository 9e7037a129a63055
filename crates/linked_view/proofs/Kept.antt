-- A pool whose files have names as they should keeps this where files are accepted.
use Rattle.std.proofs.Common.{◌≡◌, ℤ, List, [], Option, Some, None, map, sym, subst, refl, arith}
use Rattle.std.specs.List.{Contains}
use Rattle.descriptor_records.specs.Content.{Text, FileContent, file_view}
use Rattle.descriptor_records.specs.declared.file.FileDescriptorProto.{FileDescriptorProto}
use Rattle.reflect_tables.specs.Types.{PoolType}
use Rattle.reflect_pool.specs.Linked.{empty_pool}
use Rattle.reflect_build.specs.Accepted.{FaultlessFiles}
use Rattle.reflect_build.specs.Refusals.{new_files}
use Rattle.linked_view.specs.Kept.{IsKept}
use Rattle.schema_view.specs.Files.{IsThere, imports_of}
use Rattle.schema_view.specs.Declarations.{Body, of_field, of_method, of_extension, Declaration, declarations}
use Rattle.schema_view.specs.References.{Reference, Target, rename_message_type, rename_type, fill_type, dotted, linked}
use Rattle.schema_view.specs.Outlines.{IsNamed, AreApart}
use Rattle.schema_view.specs.Lawful.{Meanings, all_linked, IsFile}
use Rattle.schema_view.proofs.Lists.{contains_none, contains_map_cases}
use Rattle.schema_view.proofs.Renames.{rename_body, renamed, declarations_renamed}
use Rattle.schema_view.proofs.Road.{outlines_linked}
use Rattle.linked_view.specs.Alone.{IsRecorded, IsWellNamed}
use Rattle.linked_view.specs.Complete.{GivesType, IsComplete}
use Rattle.linked_view.specs.Named.{AreWellNamed}
use Rattle.linked_view.proofs.Accepted.{accepted_alone}
use Rattle.linked_view.proofs.Behind.{named_all}

module _ (names : Reference → Target) (n : Text) where
  there_renamed : (o : Option Text) → IsThere o → IsThere (rename_message_type names n o)
  there_renamed None h = absurd (cc h.1)
  there_renamed (Some s) h = (_, refl)

  given_renamed : (t : Option ℤ) (o : Option Text) → GivesType t o
      → GivesType (fill_type names n t o) (rename_type names n t o)
  given_renamed None None h = h
  given_renamed (Some z) None h = h
  given_renamed None (Some s) h = tt
  given_renamed (Some z) (Some s) h = tt

  complete_renamed : (b : Body) → IsComplete b → IsComplete (rename_body names n b)
  complete_renamed (of_field f) h = record {
    name = h.name;
    number = h.number;
    type = given_renamed f.field_type f.type_name h.type;
  }
  complete_renamed (of_method m) h = record {
    name = h.name;
    input = there_renamed m.input_type h.input;
    output = there_renamed m.output_type h.output;
  }
  complete_renamed (of_extension x) h = (
    record {
      name = h.0.name;
      number = h.0.number;
      type = given_renamed x.field_type x.type_name h.0.type;
    },
    there_renamed x.extendee h.1,
  )
  complete_renamed b h = h

-- linked files have names as before
module _ (old new : List FileContent) (meanings : Meanings) (h : AreWellNamed old new) where
  linked_one : (g : FileContent) → Contains (all_linked meanings new) g
      → (f : FileContent) × Contains new f × (linked (meanings f) f ≡ g)
  linked_one g i = contains_map_cases (λ f. linked (meanings f) f) new g i

  file_kept : (f : FileContent) → IsFile f → IsFile (linked (meanings f) f)
  file_kept f k = record { name = k.name; syntax = k.syntax; publics = k.publics }

  complete_kept : (f : FileContent) (d : Declaration) → Contains new f
      → Contains (declarations (linked (meanings f) f)) d → IsComplete d.body
  complete_kept f d i j =
      let names = λ (r : Reference). dotted (meanings f r) in
      let k = contains_map_cases (renamed names) (declarations f) d
      (subst (λ ds. Contains ds d) (declarations_renamed names f) j) in
      subst (λ (x : Declaration). IsComplete x.body) k.2
      (complete_renamed names k.0.name k.0.body (h.complete f k.0 i k.1))

  names_kept : AreWellNamed old (all_linked meanings new)
  names_kept =
      let os = outlines_linked old new meanings in
      record {
        apart = subst AreApart (sym os) h.apart;
        files = λ g i. (let f = linked_one g i in subst IsFile f.2 (file_kept f.0 (h.files f.0 f.1)));
        imports = λ g x i j.
            let f = linked_one g i in
            subst (λ p. IsNamed p x.file) (sym os)
            (h.imports f.0 x f.1 (subst (λ (c : FileContent). Contains (imports_of c) x) (sym f.2) j));
        complete = λ g d i j.
            let f = linked_one g i in
            complete_kept f.0 d f.1 (subst (λ (c : FileContent). Contains (declarations c) d) (sym f.2) j);
      }

pub pool_keeps : (old new : PoolType) (fs : List FileDescriptorProto) → IsWellNamed old
    → IsRecorded new → IsKept new
    → FaultlessFiles old fs new
    → IsWellNamed new
pool_keeps old new fs has recorded kept faultless =
    let r = accepted_alone old new fs has kept faultless in
    let before = map file_view old.records in
    let more = map file_view (new_files r.0.indexes fs) in
    record {
      recorded = recorded;
      named = subst (AreWellNamed []) (sym r.2.stand)
          (named_all before (all_linked r.2.meanings more) has.named
          (names_kept before more r.2.meanings r.2.names));
    }

-- a pool without files has none that are wrong
pub empty_has_names : IsWellNamed empty_pool
empty_has_names = record {
  recorded = record { headers = refl; imports = tt };
  named = record {
    apart = record {
      files = λ n. omega arith;
      names = λ n. omega arith;
      packages = λ n o h i j e p. absurd (contains_none o i);
    };
    files = λ f i. absurd (contains_none f i);
    imports = λ f x i j. absurd (contains_none f i);
    complete = λ f d i j. absurd (contains_none f i);
  };
}
