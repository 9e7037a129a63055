-- What is stored of a pool's messages, by the records of its files.
use Rattle.std.proofs.Common.{◌≡◌, ◌≤◌, ◌<◌, ◌+◌, ℕ, ℤ, pos, List, [], ◌∷◌, ◌++◌, map, take, drop, length, nat_lt, Option, Some, None, unwrap_or, arith, ap, sym, subst, ◌∙◌, refl}
use Rattle.std.proofs.Math.Seq.{take-append_seam}
use Rattle.std.proofs.Math.ListN.{length-map}
use Rattle.std.proofs.lemmas.List.{append-nil, length-append, take-append-drop}
use Rattle.std.proofs.lemmas.List.Concat.{flat_map-append}
use Rattle.std.proofs.lemmas.List.Elements.{filter-append}
use Rattle.std.specs.List.{AllByRecursion, AllZip, filter, flat_map}
use Rattle.descriptor_records.proofs.Messages.{level_view, message_view-roll}
use Rattle.descriptor_records.specs.Content as content
use Rattle.descriptor_records.specs.Content.{ExtensionRangeContent, FileContent, MessageContent, MessageContents, extension_range_view, file_view, message_view}
use Rattle.descriptor_records.specs.declared.enums.EnumDescriptorProto.{EnumDescriptorProto}
use Rattle.descriptor_records.specs.declared.field.FieldDescriptorProto.{FieldDescriptorProto}
use Rattle.descriptor_records.specs.declared.field.OneofDescriptorProto.{OneofDescriptorProto}
use Rattle.descriptor_records.specs.declared.file.FileDescriptorProto.{FileDescriptorProto}
use Rattle.descriptor_records.specs.declared.message.DescriptorProto.{DescriptorProto}
use Rattle.descriptor_records.specs.declared.message.DescriptorProto.TheFolds.{ind-DescriptorProto, fold-roll-DescriptorProto}
use Rattle.descriptor_records.specs.declared.message.DescriptorProto.TheOpen.{DescriptorProto-F}
use Rattle.descriptor_records.specs.declared.service.ServiceDescriptorProto.{ServiceDescriptorProto}
use Rattle.reflect_growth.proofs.Filters.{map_map}
use Rattle.reflect_growth.specs.Settled.{bare_message, bare_messages, bare_of, bare_range}
use Rattle.reflect_index.specs.OfDeclarations.{AllDeclared, message_in, messages_in, stored_ranges}
use Rattle.reflect_index.specs.Rewriting.{write_each, write_file, write_message, write_messages, write_type, written}
use Rattle.reflect_known.specs.DeclaredNames.{with_name, with_names}
use Rattle.reflect_known.specs.KnownNames.{nothing_before}
use Rattle.reflect_names.specs.References.{Target}
use Rattle.reflect_names.specs.ReferenceSteps.{target_of}
use Rattle.reflect_names.specs.declared.resolve_visitor.Reference.{Reference}
use Rattle.reflect_pool.proofs.Grown.{all_behind}
use Rattle.reflect_pool.specs.Linked.{AreRecorded}
use Rattle.reflect_pool.specs.Stored.{AreStored, HasRanges, MessageRanges, SaysEntry, declared_ranges, ranges_in}
use Rattle.reflect_scope.specs.Means.{join}
use Rattle.reflect_tables.specs.Names.{FullName, message_name, messages}
use Rattle.reflect_tables.specs.Ranges.{Range, reserved_range}
use Rattle.reflect_tables.specs.Types.{PoolType}
use Rattle.reflect_tables.specs.Views.{message_of}
use Rattle.reflect_tables.specs.declared.stored.StoredMessage.{StoredMessage}
use Rattle.reflect_declarations.specs.Batches.{batch_declarations}
use Rattle.reflect_declarations.specs.Declarations.{Declaration, Body, of_file, of_message, of_field, of_oneof, of_enum, of_enum_value, of_service, of_method, of_extension, each, entry, one_enum, one_extension, one_field, one_method, one_oneof, one_service, one_value, past_file, past_message, past_tree, past_trees, file_declarations, tree_declarations, trees_declarations, trees_of}
use Rattle.reflect_declarations.specs.Tree.{Message, message, Messages, more_messages, no_messages, message_step, messages_of, parts, text_of, tree_of}
use Rattle.reflect_declarations.specs.declared.offsets.Offsets.{Offsets}
use Rattle.reflect_build.proofs.Back.{filter_below, filter_from}
use Rattle.reflect_build.proofs.Pooled.{map-append}
use Rattle.reflect_build.proofs.Recorded.{all_of, first_below, further, names_in_files, names_more, others_not_below}

-- the ranges of the messages among declarations
abbrev among : List Declaration → List MessageRanges
among ds = flat_map ranges_in ds

both : (a b : List Declaration) (u v : List MessageRanges) → among a ≡ u → among b ≡ v
    → among (a ++ b) ≡ u ++ v
both a b u v e f =
    flat_map-append ranges_in a b ∙ ap (λ l. l ++ among b) e ∙ ap (λ l. u ++ l) f

-- nothing but messages has any
none_each : {A : Type 0} (one : ℕ → A → List Declaration)
    → ((k : ℕ) (x : A) → among (one k x) ≡ []) → (k : ℕ) (xs : List A)
    → among (each one k xs) ≡ []
none_each one none k [] = refl
none_each one none k (x ∷ xs) =
    both (one k x) (each one (k + 1) xs) [] [] (none k x) (none_each one none (k + 1) xs)

no_fields : (path : List ℤ) (scope : List ℕ) (file parent : ℕ) (fs : List FieldDescriptorProto)
    → among (each (one_field path scope file parent) 0 fs) ≡ []
no_fields path scope file parent =
    none_each (one_field path scope file parent) (λ k f. refl) 0

no_oneofs : (path : List ℤ) (scope : List ℕ) (file parent : ℕ) (os : List OneofDescriptorProto)
    → among (each (one_oneof path scope file parent) 0 os) ≡ []
no_oneofs path scope file parent =
    none_each (one_oneof path scope file parent) (λ k o. refl) 0

no_extensions : (path : List ℤ) (tag : ℤ) (scope : List ℕ) (file : ℕ) (parent : Option ℕ)
    (first : ℕ) (xs : List FieldDescriptorProto)
    → among (each (one_extension path tag scope file parent first) 0 xs) ≡ []
no_extensions path tag scope file parent first =
    none_each (one_extension path tag scope file parent first) (λ k x. refl) 0

no_enums : (path : List ℤ) (tag : ℤ) (scope : List ℕ) (file : ℕ) (parent : Option ℕ) (first : ℕ)
    (es : List EnumDescriptorProto)
    → among (each (one_enum path tag scope file parent first) 0 es) ≡ []
no_enums path tag scope file parent first =
    none_each (one_enum path tag scope file parent first)
    (λ k e. none_each (one_value (entry path tag k) scope file (first + k)) (λ j v. refl) 0
    e.value.items) 0

no_services : (scope : List ℕ) (file first : ℕ) (ss : List ServiceDescriptorProto)
    → among (each (one_service scope file first) 0 ss) ≡ []
no_services scope file first =
    none_each (one_service scope file first)
    (λ k s. none_each
    (one_method (entry [] (pos 6) k) (join scope (text_of s.name)) file (first + k)) (λ j m. refl) 0
    s.method.items) 0

-- a message's own, and behind them those of the messages in it
abbrev mutual
  tree_ranges : Message → List MessageRanges
  tree_ranges (message own nested) = declared_ranges own ∷ trees_ranges nested

  trees_ranges : Messages → List MessageRanges
  trees_ranges no_messages = []
  trees_ranges (more_messages m ms) = tree_ranges m ++ trees_ranges ms

mutual
  in_tree : (path : List ℤ) (scope : List ℕ) (file : ℕ) (parent : Option ℕ) (o : Offsets)
      (m : Message) → among (tree_declarations path scope file parent o m) ≡ tree_ranges m
  in_tree path scope file parent o (message own nested) =
      let inner = join scope (text_of own.name) in
      let up = Some o.messages in
      let past = past_trees (past_message o) nested in
      let all = trees_ranges nested in
      let fs = each (one_field path inner file o.messages) 0 own.field in
      let ts = trees_declarations path (pos 3) inner file up 0 (past_message o) nested in
      let es = each (one_enum path (pos 4) inner file up past.enums) 0 own.enum_type in
      let xs = each (one_extension path (pos 6) inner file up past.extensions) 0 own.extension in
      let os = each (one_oneof path inner file o.messages) 0 own.oneof_decl in
      ap (λ l. declared_ranges own ∷ l)
      (both fs (ts ++ (es ++ (xs ++ os))) [] (all ++ [])
      (no_fields path inner file o.messages own.field)
      (both ts (es ++ (xs ++ os)) all []
      (in_trees path (pos 3) inner file up 0 (past_message o) nested)
      (both es (xs ++ os) [] [] (no_enums path (pos 4) inner file up past.enums own.enum_type)
      (both xs os [] [] (no_extensions path (pos 6) inner file up past.extensions own.extension)
      (no_oneofs path inner file o.messages own.oneof_decl))))
      ∙ append-nil all)

  in_trees : (path : List ℤ) (tag : ℤ) (scope : List ℕ) (file : ℕ) (parent : Option ℕ) (k : ℕ)
      (o : Offsets) (ms : Messages)
      → among (trees_declarations path tag scope file parent k o ms) ≡ trees_ranges ms
  in_trees path tag scope file parent k o no_messages = refl
  in_trees path tag scope file parent k o (more_messages m ms) =
      both (tree_declarations (entry path tag k) scope file parent o m)
      (trees_declarations path tag scope file parent (k + 1) (past_tree o m) ms) (tree_ranges m)
      (trees_ranges ms) (in_tree (entry path tag k) scope file parent o m)
      (in_trees path tag scope file parent (k + 1) (past_tree o m) ms)

-- the same of a record's content
abbrev shown_range : ExtensionRangeContent → Range
shown_range r = (unwrap_or r.start (pos 0), unwrap_or r.end (pos 0))

abbrev mutual
  ranges_shown : MessageContent → List MessageRanges
  ranges_shown (content.message name fields extensions nested enums ranges oneofs options reserved
      names) =
      record { reserved = map reserved_range reserved; extensions = map shown_range ranges }
      ∷ all_shown nested

  all_shown : MessageContents → List MessageRanges
  all_shown content.no_messages = []
  all_shown (content.more_messages m ms) = ranges_shown m ++ all_shown ms

abbrev IsShown : DescriptorProto → Type 0
IsShown m = tree_ranges (tree_of m) ≡ ranges_shown (message_view m)

nested_shown : (ms : List ((m : DescriptorProto) × IsShown m))
    → trees_ranges (messages_of (map tree_of (map (λ e. e.0) ms)))
    ≡ all_shown (content.messages_of (map message_view (map (λ e. e.0) ms)))
nested_shown [] = refl
nested_shown (m ∷ ms) = λ i. m.1 i ++ nested_shown ms i

level_shown : (x : DescriptorProto-F DescriptorProto)
    → trees_ranges (messages_of (map tree_of x.nested_type.items))
    ≡ all_shown (content.messages_of (map message_view x.nested_type.items))
    → tree_ranges (message (parts x) (messages_of (map tree_of x.nested_type.items)))
    ≡ ranges_shown (level_view x)
level_shown x nested =
    let extensions = sym (map_map shown_range extension_range_view x.extension_range.items) in
    λ i. record {
      reserved = map reserved_range x.reserved_range.items;
      extensions = extensions i;
    } ∷ nested i

is_shown : (m : DescriptorProto) → IsShown m
is_shown = ind-DescriptorProto IsShown (λ x y is.
    let nested = subst (λ z. trees_ranges (messages_of (map tree_of z.nested_type.items))
    ≡ all_shown (content.messages_of (map message_view z.nested_type.items))) is
    (nested_shown y.nested_type.items) in
    ap tree_ranges (fold-roll-DescriptorProto Message message_step x) ∙ level_shown x nested
    ∙ sym (ap ranges_shown (message_view-roll x)))

abbrev file_ranges : FileContent → List MessageRanges
file_ranges f = flat_map ranges_shown f.message_type

abbrev all_ranges : List FileContent → List MessageRanges
all_ranges fs = flat_map file_ranges fs

messages_told : (path : List ℤ) (tag : ℤ) (scope : List ℕ) (file : ℕ) (parent : Option ℕ) (k : ℕ)
    (o : Offsets) (ms : List DescriptorProto)
    → among (trees_declarations path tag scope file parent k o (messages_of (map tree_of ms)))
    ≡ flat_map ranges_shown (map message_view ms)
messages_told path tag scope file parent k o [] = refl
messages_told path tag scope file parent k o (m ∷ ms) =
    let next = past_tree o (tree_of m) in
    both (tree_declarations (entry path tag k) scope file parent o (tree_of m))
    (trees_declarations path tag scope file parent (k + 1) next (messages_of (map tree_of ms)))
    (ranges_shown (message_view m)) (flat_map ranges_shown (map message_view ms))
    (in_tree (entry path tag k) scope file parent o (tree_of m) ∙ is_shown m)
    (messages_told path tag scope file parent (k + 1) next ms)

file_told : (o : Offsets) (i : ℕ) (f : FileDescriptorProto) → among (file_declarations o i f)
    ≡ file_ranges (file_view f)
file_told o i f =
    let scope = text_of f.package in
    let past = past_trees o (trees_of f) in
    let ts = trees_declarations [] (pos 4) scope i None 0 o (trees_of f) in
    let es = each (one_enum [] (pos 5) scope i None past.enums) 0 f.enum_type.items in
    let ss = each (one_service scope i o.services) 0 f.service.items in
    let xs = each (one_extension [] (pos 7) scope i None past.extensions) 0 f.extension.items in
    both ts (es ++ (ss ++ xs)) (file_ranges (file_view f)) []
    (messages_told [] (pos 4) scope i None 0 o f.message_type.items)
    (both es (ss ++ xs) [] [] (no_enums [] (pos 5) scope i None past.enums f.enum_type.items)
    (both ss xs [] [] (no_services scope i o.services f.service.items)
    (no_extensions [] (pos 7) scope i None past.extensions f.extension.items)))
    ∙ append-nil (file_ranges (file_view f))

-- wherever the counts of files begin, their ranges are those of their content
files_told : (o : Offsets) (i : ℕ) (fs : List FileDescriptorProto)
    → among (batch_declarations o i fs) ≡ all_ranges (map file_view fs)
files_told o i [] = refl
files_told o i (f ∷ fs) =
    both (file_declarations o i f) (batch_declarations (past_file o f) (i + 1) fs)
    (file_ranges (file_view f)) (all_ranges (map file_view fs)) (file_told o i f)
    (files_told (past_file o f) (i + 1) fs)

-- names that are written change none
mutual
  write_keeps : (ts : List Target) (m : MessageContent) → ranges_shown (write_message ts m).0
      ≡ ranges_shown m
  write_keeps ts (content.message name fields extensions nested enums ranges oneofs options reserved
      names) =
      ap (λ l. record { reserved = map reserved_range reserved; extensions = map shown_range ranges }
      ∷ l) (writes_keep (write_each write_type ts fields).1 nested)

  writes_keep : (ts : List Target) (ms : MessageContents) → all_shown (write_messages ts ms).0
      ≡ all_shown ms
  writes_keep ts content.no_messages = refl
  writes_keep ts (content.more_messages m ms) =
      λ i. write_keeps ts m i ++ writes_keep (write_message ts m).1 ms i

each_keeps : (ts : List Target) (ms : List MessageContent)
    → flat_map ranges_shown (write_each write_message ts ms).0 ≡ flat_map ranges_shown ms
each_keeps ts [] = refl
each_keeps ts (m ∷ ms) = λ i. write_keeps ts m i ++ each_keeps (write_message ts m).1 ms i

files_keep : (ts : List Target) (fs : List FileContent)
    → all_ranges (write_each write_file ts fs).0 ≡ all_ranges fs
files_keep ts [] = refl
files_keep ts (f ∷ fs) = λ i. each_keeps ts f.message_type i ++ files_keep (write_file ts f).1 fs i

-- nor do options
mutual
  bare_keeps : (m : MessageContent) → ranges_shown (bare_message m) ≡ ranges_shown m
  bare_keeps (content.message name fields extensions nested enums ranges oneofs options reserved
      names) =
      let same = map_map shown_range bare_range ranges in
      λ i. record { reserved = map reserved_range reserved; extensions = same i }
      ∷ bares_keep nested i

  bares_keep : (ms : MessageContents) → all_shown (bare_messages ms) ≡ all_shown ms
  bares_keep content.no_messages = refl
  bares_keep (content.more_messages m ms) = λ i. bare_keeps m i ++ bares_keep ms i

bare_each : (ms : List MessageContent) → flat_map ranges_shown (map bare_message ms)
    ≡ flat_map ranges_shown ms
bare_each [] = refl
bare_each (m ∷ ms) = λ i. bare_keeps m i ++ bare_each ms i

bare_files : (fs : List FileDescriptorProto) → all_ranges (map bare_of fs)
    ≡ all_ranges (map file_view fs)
bare_files [] = refl
bare_files (f ∷ fs) = λ i. bare_each (file_view f).message_type i ++ bare_files fs i

-- the ranges that the records of all files declare
abbrev recorded : List FileDescriptorProto → List MessageRanges
recorded fs = among (all_of fs)

recorded_on : (fs gs : List FileDescriptorProto) → recorded (fs ++ gs)
    ≡ recorded fs ++ all_ranges (map file_view gs)
recorded_on fs gs =
    let more = all_ranges (map file_view gs) in
    files_told nothing_before 0 (fs ++ gs) ∙ ap all_ranges (map-append file_view fs gs)
    ∙ flat_map-append file_ranges (map file_view fs) (map file_view gs)
    ∙ ap (λ l. l ++ more) (sym (files_told nothing_before 0 fs))

-- what is stored of messages stays as it is where options are settled
pub stored_settled : (fs gs : List FileDescriptorProto) (ms : List StoredMessage)
    → map bare_of gs ≡ map bare_of fs → AreStored fs ms → AreStored gs ms
stored_settled fs gs ms same h =
    let e : recorded fs ≡ recorded gs =
    files_told nothing_before 0 fs ∙ sym (bare_files fs) ∙ ap all_ranges (sym same) ∙ bare_files gs
    ∙ sym (files_told nothing_before 0 gs) in
    record { ranges = subst (λ l. AllZip HasRanges l ms) e h.ranges; entries = h.entries }

-- a list in two, the first of which goes with another list
record Parts {A B : Type 0} (R : A → B → Type 0) (a : List A) (xs : List B) : Type 0 where
  left : List B
  right : List B
  whole : xs ≡ left ++ right
  goes : AllZip R a left

module _ {A B : Type 0} (R : A → B → Type 0) where
  pub zip_both : (a b : List A) (x y : List B) → AllZip R a x → AllZip R b y
      → AllZip R (a ++ b) (x ++ y)
  zip_both [] b [] y h k = k
  zip_both [] b (q ∷ x) y h k = absurd h
  zip_both (p ∷ a) b [] y h k = absurd h
  zip_both (p ∷ a) b (q ∷ x) y h k = (h.0, zip_both a b x y h.1 k)

  as_long : (a : List A) (x : List B) → AllZip R a x → length a ≡ length x
  as_long [] [] h = refl
  as_long [] (q ∷ x) h = absurd h
  as_long (p ∷ a) [] h = absurd h
  as_long (p ∷ a) (q ∷ x) h = let rest = as_long a x h.1 in omega (arith, rest)

  zip_parts : (a b : List A) (xs : List B) → AllZip R (a ++ b) xs → Parts R a xs
  zip_parts [] b xs h = record { left = []; right = xs; whole = refl; goes = tt }
  zip_parts (p ∷ a) b [] h = absurd h
  zip_parts (p ∷ a) b (q ∷ xs) h =
      let rest = zip_parts a b xs h.1 in
      record {
        left = q ∷ rest.left;
        right = rest.right;
        whole = ap (λ l. q ∷ l) rest.whole;
        goes = (h.0, rest.goes);
      }

-- the ranges that are indexed are those that are declared
one_declared : (d : Declaration) (b : Body) (ds : List Declaration)
    → ((ms : List StoredMessage) → AllDeclared (messages_in ds) (map stored_ranges ms)
    → AllZip HasRanges (among ds) ms)
    → (ms : List StoredMessage)
    → AllDeclared (message_in b ++ messages_in ds) (map stored_ranges ms)
    → AllZip HasRanges (ranges_in (record d { body = b }) ++ among ds) ms
one_declared d (of_message m) ds rest [] h = absurd h
one_declared d (of_message m) ds rest (s ∷ ms) h =
    (record { reserved = h.0.reserved; extensions = h.0.extensions }, rest ms h.1)
one_declared d (of_file f) ds rest ms h = rest ms h
one_declared d (of_field f) ds rest ms h = rest ms h
one_declared d (of_oneof o) ds rest ms h = rest ms h
one_declared d (of_enum k) ds rest ms h = rest ms h
one_declared d (of_enum_value v) ds rest ms h = rest ms h
one_declared d (of_service s) ds rest ms h = rest ms h
one_declared d (of_method m) ds rest ms h = rest ms h
one_declared d (of_extension x) ds rest ms h = rest ms h

pub all_declared : (ds : List Declaration) (ms : List StoredMessage)
    → AllDeclared (messages_in ds) (map stored_ranges ms) → AllZip HasRanges (among ds) ms
all_declared [] [] h = tt
all_declared [] (s ∷ ms) h = absurd h
all_declared (d ∷ ds) ms h = one_declared d d.body ds (all_declared ds) ms h

-- the messages of further files behind those of others, with the names written that references mean
pub stored_more : (fs gs hs all : List FileDescriptorProto) (rs : List Reference) (o : Offsets)
    (i : ℕ) (olds news ms : List StoredMessage) → AreStored fs olds
    → AllDeclared (messages_in (batch_declarations o i gs)) (map stored_ranges news)
    → AllByRecursion SaysEntry news → map file_view hs ≡ written rs (map file_view gs)
    → all ≡ fs ++ hs → ms ≡ olds ++ news → AreStored all ms
stored_more fs gs hs all rs o i olds news ms h declared entries views files stands =
    let e : recorded fs ++ among (batch_declarations o i gs) ≡ recorded all =
    ap (λ l. recorded fs ++ l) (files_told o i gs ∙ sym (files_keep (map target_of rs) (map file_view gs))
    ∙ ap all_ranges (sym views)) ∙ sym (recorded_on fs hs) ∙ ap recorded (sym files) in
    let more = all_declared (batch_declarations o i gs) news declared in
    subst (AreStored all) (sym stands) (record {
      ranges = subst (λ l. AllZip HasRanges l (olds ++ news)) e
          (zip_both HasRanges (recorded fs) (among (batch_declarations o i gs)) olds news h.ranges more);
      entries = all_behind SaysEntry olds news h.entries entries;
    })

-- a message more, and its name
one_counted : (names : List FullName) (d : Declaration) (b : Body)
    → length (with_name messages names (record d { body = b }))
    ≡ length names + length (ranges_in (record d { body = b }))
one_counted names d (of_message m) = length-append names ((d.name, d.file) ∷ [])
one_counted names d (of_file f) = omega arith
one_counted names d (of_field f) = omega arith
one_counted names d (of_oneof o) = omega arith
one_counted names d (of_enum k) = omega arith
one_counted names d (of_enum_value v) = omega arith
one_counted names d (of_service s) = omega arith
one_counted names d (of_method m) = omega arith
one_counted names d (of_extension x) = omega arith

all_counted : (names : List FullName) (ds : List Declaration)
    → length (with_names messages names ds) ≡ length names + length (among ds)
all_counted names [] = omega arith
all_counted names (d ∷ ds) =
    let rest : length (with_names messages (with_name messages names d) ds)
    ≡ length (with_name messages names d) + length (among ds) =
    all_counted (with_name messages names d) ds in
    let here : length (with_name messages names d) ≡ length names + length (ranges_in d) =
    one_counted names d d.body in
    let sum : length (ranges_in d ++ among ds) ≡ length (ranges_in d) + length (among ds) =
    length-append (ranges_in d) (among ds) in
    rest ∙ omega (arith, here, sum)

all_unmapped : {X Y : Type 0} (f : X → Y) (P : Y → Type 0) (xs : List X)
    → AllByRecursion P (map f xs) → AllByRecursion (λ x. P (f x)) xs
all_unmapped f P [] h = tt
all_unmapped f P (x ∷ xs) h = (h.0, all_unmapped f P xs h.1)

all_front : {X : Type 0} (P : X → Type 0) (xs ys : List X) → AllByRecursion P (xs ++ ys)
    → AllByRecursion P xs
all_front P [] ys h = tt
all_front P (x ∷ xs) ys h = (h.0, all_front P xs ys h.1)

-- what stands behind as much
same_back : {X : Type 0} (a b c d : List X) → a ≡ c → a ++ b ≡ c ++ d → b ≡ d
same_back {X = X} a b c d e f = without a b d (f ∙ ap (λ l. l ++ d) (sym e)) where
  without : (a b d : List X) → a ++ b ≡ a ++ d → b ≡ d
  without [] b d g = g
  without (x ∷ a) b d g =
      let same : x ∷ (a ++ b) ≡ x ∷ (a ++ d) = g in
      let rest : a ++ b ≡ a ++ d = cc same in
      without a b d rest

-- of a pool that is cut back
module _ (p : PoolType) (mark : ℕ) (ms : List StoredMessage) (are : p.messages ≡ map message_of ms)
    (named : AreRecorded p) (h : AreStored p.records ms) where
  abbrev front : List FileDescriptorProto
  front = take mark p.records

  abbrev back : List FileDescriptorProto
  back = drop mark p.records

  whole : front ++ back ≡ p.records
  whole = take-append-drop mark p.records

  cut_parts : Parts HasRanges (recorded front) ms
  cut_parts = zip_parts HasRanges (recorded front) (all_ranges (map file_view back)) ms
      (subst (λ l. AllZip HasRanges l ms) (sym (ap recorded whole) ∙ recorded_on front back) h.ranges)

  abbrev left : List StoredMessage
  left = cut_parts.left

  abbrev right : List StoredMessage
  right = cut_parts.right

  abbrev name : StoredMessage → FullName
  name m = message_name (message_of m)

  abbrev firsts : List FullName
  firsts = with_names messages [] (all_of front)

  abbrev others : List FullName
  others = with_names messages [] (further front back)

  names_are : map name left ++ map name right ≡ firsts ++ others
  names_are =
      sym (ap (map name) cut_parts.whole ∙ map-append name left right)
      ∙ sym (map_map message_name message_of ms) ∙ ap (map message_name) (sym are) ∙ named messages
      ∙ ap (λ fs. with_names messages [] (all_of fs)) (sym whole) ∙ names_more messages front back

  as_many : length (map name left) ≡ length firsts
  as_many =
      let a = length-map left name in
      let b = as_long HasRanges (recorded front) left cut_parts.goes in
      let c : length firsts ≡ 0 + length (recorded front) = all_counted [] (all_of front) in
      omega (arith, a, b, c)

  first_names_are : map name left ≡ firsts
  first_names_are =
      sym (take-append_seam (map name left) (map name right))
      ∙ ap (take (length (map name left))) names_are ∙ ap (λ n. take n (firsts ++ others)) as_many
      ∙ take-append_seam firsts others

  other_names_are : map name right ≡ others
  other_names_are =
      same_back (map name left) (map name right) firsts others first_names_are names_are

  low : AllByRecursion (λ (m : StoredMessage). m.file < mark) left
  low = all_unmapped name (λ (n : FullName). n.1 < mark) left
      (subst (AllByRecursion (λ (n : FullName). n.1 < mark)) (sym first_names_are)
      (names_in_files (λ k. k < mark) messages [] (all_of front) (first_below mark p.records) tt))

  high : AllByRecursion (λ (m : StoredMessage). mark ≤ m.file) right
  high = all_unmapped name (λ (n : FullName). mark ≤ n.1) right
      (subst (AllByRecursion (λ (n : FullName). mark ≤ n.1)) (sym other_names_are)
      (names_in_files (λ k. mark ≤ k) messages [] (further front back)
      (others_not_below mark p.records) tt))

  kept : filter (λ (m : StoredMessage). nat_lt m.file mark) ms ≡ left
  kept =
      let test = λ (m : StoredMessage). nat_lt m.file mark in
      ap (filter test) cut_parts.whole ∙ filter-append test left right
      ∙ ap (λ l. l ++ filter test right) (filter_below (λ m. m.file) mark left low)
      ∙ ap (λ l. left ++ l) (filter_from (λ m. m.file) mark right high) ∙ append-nil left

  pub stored_cut : (ns : List StoredMessage) → ns ≡ filter (λ m. nat_lt m.file mark) ms
      → AreStored (take mark p.records) ns
  stored_cut ns is = subst (AreStored front) (sym (is ∙ kept)) (record {
    ranges = cut_parts.goes;
    entries = all_front SaysEntry left right
        (subst (AllByRecursion SaysEntry) cut_parts.whole h.entries);
  })
