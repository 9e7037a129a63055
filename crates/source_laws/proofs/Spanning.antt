-- Each location of a source has a span.
use Rattle.std.proofs.Common.{◌≡◌, ◌^◌, ◌<◌, ◌==◌, ℕ, Bool, true, false, cond, pos, List, [], ◌∷◌, map, Option, Some, None, Ok, option_map, refl, sym, ap, subst, arith}
use Rattle.std.proofs.lemmas.Cmp.{int_cmp_total, lists_total}
use Rattle.std.proofs.lemmas.List.Sorted.{ranks_by}
use Rattle.std.specs.List.{AllByRecursion}
use Rattle.descriptor_records.specs.Content.{FileContent, LocationContent, location_view, source_info_view}
use Rattle.descriptor_records.specs.declared.file.FileDescriptorProto.{FileDescriptorProto}
use Rattle.descriptor_records.specs.declared.source_info.Location.{Location}
use Rattle.descriptor_records.specs.declared.source_info.SourceCodeInfo.{SourceCodeInfo}
use Rattle.protox_lex.specs.Class.{Text}
use Rattle.protox_lex.specs.Lines.{column_at, feeds_of, line_at}
use Rattle.protox_lex.specs.declared.span.Span.{Span}
use Rattle.protox_locate.specs.Files.{file_events, is_before}
use Rattle.protox_locate.specs.Located.{Event, closing, counted, empty, located, located_from, part, place_at, statement}
use Rattle.protox_parse.specs.Answers.{IsAnswered}
use Rattle.protox_tree.specs.FileView.{file_view}
use Rattle.reflect_faults.specs.Spans.{locations}
use Rattle.source_laws.specs.Spanned.{HasSpan, IsSpan}
use Rattle.source_laws.proofs.PlainPlaces.{all_sorted, counted_small, line_before}

-- the numbers that are told of a place
place_span : (z : Text) (span : Span) → IsSpan (place_at (feeds_of z) span)
place_span z span = by (line_at (feeds_of z) first == line_at (feeds_of z) last) where
  first : ℕ
  first = counted span.start

  last : ℕ
  last = counted span.end

  line : (n : ℕ) → n < 2 ^ 31 → line_at (feeds_of z) n < 2 ^ 31
  line n lt = omega (arith, lt, line_before z n)

  column : (n : ℕ) → n < 2 ^ 31 → column_at (feeds_of z) n < 2 ^ 31
  column n lt = omega (arith, lt)

  by : (b : Bool) → IsSpan (pos (line_at (feeds_of z) first) ∷ pos (column_at (feeds_of z) first)
      ∷ cond b (pos (column_at (feeds_of z) last) ∷ []) (pos (line_at (feeds_of z) last) ∷ pos (column_at (feeds_of z) last) ∷ []))
  by true = (
    record {
      start_line = line_at (feeds_of z) first;
      start_column = column_at (feeds_of z) first;
      end_line = line_at (feeds_of z) first;
      end_column = column_at (feeds_of z) last;
    },
    refl,
    record {
      start_line = line first (counted_small span.start);
      start_column = column first (counted_small span.start);
      end_line = line first (counted_small span.start);
      end_column = column last (counted_small span.end);
    },
  )
  by false = (
    record {
      start_line = line_at (feeds_of z) first;
      start_column = column_at (feeds_of z) first;
      end_line = line_at (feeds_of z) last;
      end_column = column_at (feeds_of z) last;
    },
    refl,
    record {
      start_line = line first (counted_small span.start);
      start_column = column first (counted_small span.start);
      end_line = line last (counted_small span.end);
      end_column = column last (counted_small span.end);
    },
  )

abbrev HasSpanToo : LocationContent → Type 0
HasSpanToo l = IsSpan l.span

-- those of all that is met in a source
located_spans : (z : Text) (from : ℕ) (may_trail : Bool) (es : List Event) → AllByRecursion HasSpanToo (located_from z (feeds_of z) from may_trail es)
located_spans z from may_trail [] = tt
located_spans z from may_trail (part path tail span ∷ es) = (place_span z span, located_spans z from may_trail es)
located_spans z from may_trail (statement path tail span end ∷ es) = (place_span z span, located_spans z end true es)
located_spans z from may_trail (closing braces ∷ es) = located_spans z braces.end false es
located_spans z from may_trail (empty span ∷ es) = located_spans z span.end true es

unseen : (ls : List Location) → AllByRecursion HasSpanToo (map location_view ls) → AllByRecursion HasSpan ls
unseen [] h = tt
unseen (l ∷ ls) h = (h.0, unseen ls h.1)

pub source_spans : (name z : Text) (made : FileDescriptorProto) → IsAnswered name z (Ok made) → AllByRecursion HasSpan (locations made)
source_spans name z made h = by made.source_code_info (ap (λ (m : FileContent). m.source_code_info) h.3.is) where
  all : AllByRecursion HasSpanToo h.3.locations
  all =
      all_sorted HasSpanToo is_before (ranks_by (lists_total int_cmp_total) (λ (l : LocationContent). l.path))
      (located z (feeds_of z) (file_events (file_view h.0))) h.3.locations h.3.located.same
      (located_spans z 0 false (file_events (file_view h.0)))

  by : (o : Option SourceCodeInfo) → option_map source_info_view o ≡ Some h.3.locations → AllByRecursion HasSpan (elim o [ None ↦ [] | Some info ↦ info.location.items ])
  by None e = absurd (cc e)
  by (Some info) e =
      let same : map location_view info.location.items ≡ h.3.locations = cc e in
      unseen info.location.items (subst (AllByRecursion HasSpanToo) (sym same) all)
