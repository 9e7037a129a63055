-- What a pool tells of a message stays where each record keeps the same, and where others come
-- behind: so where options are settled.
use Rattle.std.proofs.Common.{◌≡◌, ◌++◌, ℕ, List, map, Some, refl, sym, ap, ◌∙◌, subst, slice_get}
use Rattle.std.specs.List.{Contains}
use Rattle.std.proofs.lemmas.List.{map-append}
use Rattle.std.proofs.lemmas.List.Elements.{Contains-append_left}
use Rattle.descriptor_records.specs.Content.{Text, FileContent, file_view}
use Rattle.descriptor_records.specs.declared.file.FileDescriptorProto.{FileDescriptorProto}
use Rattle.descriptor_records.specs.declared.message.DescriptorProto.{DescriptorProto}
use Rattle.reflect_index.proofs.Among.{get_map, got_map}
use Rattle.reflect_pool.specs.AtPaths.{Stands, IsRecordAt, message_name}
use Rattle.reflect_pool.specs.Records.{message_along}
use Rattle.reflect_tables.specs.Types.{PoolType, MessageType, type_at}
use Rattle.reflect_tables.proofs.Founds.{front}
use Rattle.linked_view.proofs.Places.{contains_get, get_contains}
use Rattle.schema_view.specs.Declarations.{Declaration, declarations, of_message}
use Rattle.schema_view.proofs.Lists.{contains_map, contains_map_cases}
use Rattle.settled_view.specs.BuiltBut.{ChangesOptions}
use Rattle.schema_laws.specs.ToldMessages.{Declare, TellsMessages, ranges_of}
use Rattle.schema_laws.proofs.AlongPaths.{at_path, same_name, same_ranges}
use Rattle.schema_laws.proofs.Keepings.{kept_of, settled_keep}
use Rattle.schema_laws.proofs.Tellings.{told_alike}

-- a message type has a record, which the pool's files declare under its full name
abbrev pub TellsType : PoolType → MessageType → Type 0
TellsType p t =
    (r : DescriptorProto) × IsRecordAt message_along message_name p t.file t.path t.name r
    × Declare (map file_view p.records) t.full_name r

-- a record that keeps the same stands at the place
pub record IsKeptFile (gs : List FileDescriptorProto) (k : ℕ) (f : FileDescriptorProto) : Type 0
  where
    pub own : FileDescriptorProto
    pub at : slice_get gs k ≡ Some own
    pub same : kept_of f ≡ kept_of own

pub kept_file : (fs gs : List FileDescriptorProto) → map kept_of fs ≡ map kept_of gs → (k : ℕ)
    (f : FileDescriptorProto) → slice_get fs k ≡ Some f → IsKeptFile gs k f
kept_file fs gs same k f at =
    let g = got_map kept_of gs k (kept_of f)
    (ap (λ l. slice_get l k) (sym same) ∙ get_map kept_of fs k f at) in
    record { own = g.0; at = g.1; same = sym g.2 }

declare_stays : (fs gs : List FileDescriptorProto) → map kept_of fs ≡ map kept_of gs
    → (full : Text) (r s : DescriptorProto) → ranges_of r ≡ ranges_of s
    → Declare (map file_view fs) full r → Declare (map file_view gs) full s
declare_stays fs gs same full r s ranges d =
    let c = contains_map_cases file_view fs d.file d.there in
    let k = contains_get fs c.0 c.1 in
    let g = kept_file fs gs same k.0 c.0 k.1 in
    let own : Declaration = record { name = full; body = of_message d.facts } in
    let m = told_alike (file_view c.0) (file_view g.own) g.same full d.facts
    (subst (λ (x : FileContent). Contains (declarations x) own) (sym c.2) d.inside) in
    record {
      file = file_view g.own;
      facts = m.facts;
      there = contains_map file_view gs g.own (get_contains gs k.0 g.own g.at);
      inside = m.inside;
      ranges = m.keeps ∙ d.ranges ∙ ranges;
    }

-- the record of a type stands where it stood, and keeps the same numbers
pub record StaysRecord (q : PoolType) (t : MessageType) (r : DescriptorProto) : Type 0 where
  pub own : DescriptorProto
  pub stands : IsRecordAt message_along message_name q t.file t.path t.name own
  pub ranges : ranges_of r ≡ ranges_of own

pub record_stays : (p q : PoolType) → map kept_of p.records ≡ map kept_of q.records
    → (t : MessageType) (r : DescriptorProto)
    → IsRecordAt message_along message_name p t.file t.path t.name r → StaysRecord q t r
record_stays p q same t r (s, is) =
    let f = kept_file p.records q.records same t.file s.of_file s.there in
    let x = at_path s.of_file f.own f.same t.path s.own s.at in
    let stands : Stands message_along message_name q t.file t.path t.name = record {
      of_file = f.own;
      own = x.0;
      there = f.at;
      at = x.1;
      named = sym (same_name s.own x.0 x.2) ∙ s.named;
    } in
    record {
      own = x.0;
      stands = (stands, refl);
      ranges = ap ranges_of (sym is) ∙ same_ranges s.own x.0 x.2;
    }

type_stays : (p q : PoolType) → map kept_of p.records ≡ map kept_of q.records → (t : MessageType)
    → TellsType p t → TellsType q t
type_stays p q same t (r, is, d) =
    let x = record_stays p q same t r is in
    (x.own, x.stands, declare_stays p.records q.records same t.full_name r x.own x.ranges d)

pub settled_tells : (linked new : PoolType) → ChangesOptions linked new → TellsMessages linked
    → TellsMessages new
settled_tells linked new s tells =
    let settled : PoolType = record linked { records = new.records } in
    let told : TellsMessages settled = λ i lt. type_stays linked settled
    (settled_keep linked.records new.records (sym s.bare)) (type_at linked i) (tells i lt) in
    subst TellsMessages (sym s.settled) told

-- ---- further records

declare_more : (fs gs : List FileContent) (full : Text) (r : DescriptorProto)
    → Declare fs full r → Declare (fs ++ gs) full r
declare_more fs gs full r d = record {
  file = d.file;
  facts = d.facts;
  there = Contains-append_left fs gs d.file d.there;
  inside = d.inside;
  ranges = d.ranges;
}

pub type_more : (p q : PoolType) (more : List FileDescriptorProto)
    → q.records ≡ p.records ++ more → (t : MessageType) → TellsType p t → TellsType q t
type_more p q more are t (r, (s, is), d) =
    let stands : Stands message_along message_name q t.file t.path t.name = record {
      of_file = s.of_file;
      own = s.own;
      there = ap (λ l. slice_get l t.file) are ∙ front p.records more t.file s.of_file s.there;
      at = s.at;
      named = s.named;
    } in
    let views : map file_view p.records ++ map file_view more ≡ map file_view q.records =
    sym (ap (map file_view) are ∙ map-append file_view p.records more) in (
      r,
      (stands, is),
      subst (λ fs. Declare fs t.full_name r) views
          (declare_more (map file_view p.records) (map file_view more) t.full_name r d),
    )
