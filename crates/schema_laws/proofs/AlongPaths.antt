-- Where the messages of two files keep the same, those at one path keep the same.
use Rattle.std.proofs.Common.{◌≡◌, ℕ, zero, suc, ℤ, pos, negsuc, Bool, true, false, cond, List, [], ◌∷◌, map, Option, None, Some, option_map, refl, sym, ap, ◌∙◌, slice_get}
use Rattle.std.specs.Option.{option_and_then}
use Rattle.std.specs.Ordering.{int_eq}
use Rattle.descriptor_records.specs.Content.{Text, MessageContent, messages_of, message_view, extension_range_view}
use Rattle.descriptor_records.specs.declared.file.FileDescriptorProto.{FileDescriptorProto}
use Rattle.descriptor_records.specs.declared.message.DescriptorProto.{DescriptorProto}
use Rattle.descriptor_records.specs.declared.message.DescriptorProto.TheViews.{out-DescriptorProto}
use Rattle.descriptor_records.proofs.Messages.{message_view-out}
use Rattle.linked_view.proofs.Walked.{text_seen}
use Rattle.reflect_pool.specs.AtPaths.{message_name}
use Rattle.reflect_pool.specs.Records.{item_at, entry_of, nested_of, message_below, message_along}
use Rattle.schema_view.specs.Declarations.{Range, extension_range}
use Rattle.schema_view.proofs.Renames.{map_same}
use Rattle.schema_laws.specs.ToldMessages.{ranges_of}
use Rattle.schema_laws.proofs.Keepings.{Keeping, keeping, Keepings, no_keepings, more_keepings, kept_by, kept_by_all, FileKeeping, kept_of}

-- ---- one message

abbrev pub message_kept : DescriptorProto → Keeping
message_kept m = kept_by (message_view m)

abbrev name_in : Keeping → Text
name_in (keeping name ranges nested) = name

abbrev ranges_in : Keeping → List Range
ranges_in (keeping name ranges nested) = ranges

abbrev listed : Keepings → List Keeping
listed no_keepings = []
listed (more_keepings k ks) = k ∷ listed ks

abbrev nested_in : Keeping → List Keeping
nested_in (keeping name ranges nested) = listed nested

listed_back : (ms : List DescriptorProto)
    → listed (kept_by_all (messages_of (map message_view ms))) ≡ map message_kept ms
listed_back [] = refl
listed_back (m ∷ ms) = ap (λ l. message_kept m ∷ l) (listed_back ms)

name_kept : (m : DescriptorProto) → name_in (message_kept m) ≡ message_name m
name_kept m =
    ap (λ (c : MessageContent). name_in (kept_by c)) (message_view-out m)
    ∙ text_seen (out-DescriptorProto m).name

ranges_kept : (m : DescriptorProto) → ranges_in (message_kept m) ≡ ranges_of m
ranges_kept m =
    ap (λ (c : MessageContent). ranges_in (kept_by c)) (message_view-out m)
    ∙ map_same extension_range extension_range_view (λ x. extension_range (extension_range_view x))
    (λ x. refl) (out-DescriptorProto m).extension_range.items

nested_kept : (m : DescriptorProto)
    → nested_in (message_kept m) ≡ map message_kept (nested_of m)
nested_kept m =
    ap (λ (c : MessageContent). nested_in (kept_by c)) (message_view-out m)
    ∙ listed_back (nested_of m)

module _ (a b : DescriptorProto) (same : message_kept a ≡ message_kept b) where
  pub same_name : message_name a ≡ message_name b
  same_name = sym (name_kept a) ∙ ap name_in same ∙ name_kept b

  pub same_ranges : ranges_of a ≡ ranges_of b
  same_ranges = sym (ranges_kept a) ∙ ap ranges_in same ∙ ranges_kept b

  same_nested : map message_kept (nested_of a) ≡ map message_kept (nested_of b)
  same_nested = sym (nested_kept a) ∙ ap nested_in same ∙ nested_kept b

-- ---- along paths

abbrev Same : Option DescriptorProto → Option DescriptorProto → Type 0
Same o p = option_map message_kept o ≡ option_map message_kept p

get_mapped : (xs : List DescriptorProto) (k : ℕ)
    → option_map message_kept (slice_get xs k) ≡ slice_get (map message_kept xs) k
get_mapped [] k = refl
get_mapped (x ∷ xs) zero = refl
get_mapped (x ∷ xs) (suc k) = get_mapped xs k

module _ (xs ys : List DescriptorProto) (same : map message_kept xs ≡ map message_kept ys) where
  item_same : (z : ℤ) → Same (item_at xs z) (item_at ys z)
  item_same (pos k) =
      get_mapped xs k ∙ ap (λ l. slice_get l k) same ∙ sym (get_mapped ys k)
  item_same (negsuc k) = refl

  entry_same : (list number place : ℤ)
      → Same (entry_of list xs number place) (entry_of list ys number place)
  entry_same list number place = by (int_eq number list) where
    by : (b : Bool) → Same (cond b (item_at xs place) None) (cond b (item_at ys place) None)
    by true = item_same place
    by false = refl

-- one step further down
step_same : (number place : ℤ) (o p : Option DescriptorProto) → Same o p
    → Same (option_and_then (λ d. entry_of (pos 3) (nested_of d) number place) o)
    (option_and_then (λ d. entry_of (pos 3) (nested_of d) number place) p)
step_same number place None None e = refl
step_same number place None (Some b) e = absurd (cc e)
step_same number place (Some a) None e = absurd (cc e)
step_same number place (Some a) (Some b) e =
    let same : message_kept a ≡ message_kept b = cc e in
    entry_same (nested_of a) (nested_of b) (same_nested a b same) (pos 3) number place

below_same : (o p : Option DescriptorProto) (path : List ℤ) → Same o p
    → Same (message_below o path) (message_below p path)
below_same o p [] e = e
below_same o p (number ∷ []) e = refl
below_same o p (number ∷ place ∷ path) e =
    below_same (option_and_then (λ d. entry_of (pos 3) (nested_of d) number place) o)
    (option_and_then (λ d. entry_of (pos 3) (nested_of d) number place) p) path
    (step_same number place o p e)

-- what is seen of a message is seen of one that is there
found_kept : (o : Option DescriptorProto) (k : Keeping) → option_map message_kept o ≡ Some k
    → (s : DescriptorProto) × (o ≡ Some s) × (k ≡ message_kept s)
found_kept None k e = absurd (cc e)
found_kept (Some s) k e = let same : message_kept s ≡ k = cc e in (s, refl, sym same)

module _ (f g : FileDescriptorProto) (same : kept_of f ≡ kept_of g) where
  messages_same : map message_kept f.message_type.items ≡ map message_kept g.message_type.items
  messages_same =
      sym (map_same kept_by message_view message_kept (λ m. refl) f.message_type.items)
      ∙ ap (λ (k : FileKeeping). k.messages) same
      ∙ map_same kept_by message_view message_kept (λ m. refl) g.message_type.items

  along_same : (path : List ℤ) → Same (message_along f path) (message_along g path)
  along_same [] = refl
  along_same (number ∷ []) = refl
  along_same (number ∷ place ∷ path) =
      below_same (entry_of (pos 4) f.message_type.items number place)
      (entry_of (pos 4) g.message_type.items number place) path
      (entry_same f.message_type.items g.message_type.items messages_same (pos 4) number place)

  -- the other file has a message at the path too, which keeps the same
  pub at_path : (path : List ℤ) (r : DescriptorProto) → message_along f path ≡ Some r
      → (s : DescriptorProto) × (message_along g path ≡ Some s)
      × (message_kept r ≡ message_kept s)
  at_path path r e = found_kept (message_along g path) (message_kept r)
      (sym (along_same path) ∙ ap (option_map message_kept) e)
