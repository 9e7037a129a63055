-- What is collected one by one are the locations of all that is met.
use Rattle.std.proofs.Common.{◌≡◌, true, ℕ, zero, suc, ◌<◌, List, [], ◌∷◌, ◌++◌, Option, length, ap, sym, refl, ◌∙◌, arith, append_assoc}
use Rattle.std.proofs.lemmas.List.{append-nil, length-append}
use Rattle.descriptor_records.specs.Content.{LocationContent}
use Rattle.protox_lex.specs.Class.{Text}
use Rattle.protox_locate.specs.Collected.{State, behind_gap, led_by, may_trail, meet, meets, notes_before, start, trailed, trailed_at}
use Rattle.protox_locate.specs.Located.{Event, closing, empty, gap_notes, located, located_from, location, part, statement}
use Rattle.protox_locate.specs.declared.gap.Behind.TheVariants as behinds
use Rattle.protox_locate.specs.declared.locator.Front.{Front}
use Rattle.protox_locate.specs.declared.locator.Front.TheVariants as fronts

-- the statement in front has a location among so many
abbrev IsAmong : ℕ → Front → Type 0
IsAmong n fronts.Nothing = Unit {0}
IsAmong n fronts.Empty = Unit {0}
IsAmong n (fronts.Statement k) = k < n

-- the locations once the last gap is read
abbrev pub ended : State → List LocationContent
ended s = (behind_gap s (length s.source) behinds.End).locations

abbrev in_front : State → List Event → List LocationContent
in_front s es = trailed s.front (gap_notes s.source s.gap_start (may_trail s.front) es).trailing s.locations

abbrev behind : State → List Event → List LocationContent
behind s es = located_from s.source s.line_feeds s.gap_start (may_trail s.front) es

trailed_at_more : (k : ℕ) (t : Option Text) (ls : List LocationContent) (l : LocationContent) → k < length ls → trailed_at k t (ls ++ l ∷ []) ≡ trailed_at k t ls ++ l ∷ []
trailed_at_more k t [] l lt = absurd (omega (arith, lt))
trailed_at_more zero t (x ∷ ls) l lt = refl
trailed_at_more (suc k) t (x ∷ ls) l lt = ap (λ ys. x ∷ ys) (trailed_at_more k t ls l (omega (arith, lt)))

trailed_more : (f : Front) (t : Option Text) (ls : List LocationContent) (l : LocationContent) → IsAmong (length ls) f → trailed f t (ls ++ l ∷ []) ≡ trailed f t ls ++ l ∷ []
trailed_more fronts.Nothing t ls l h = refl
trailed_more fronts.Empty t ls l h = refl
trailed_more (fronts.Statement k) t ls l h = trailed_at_more k t ls l h

trailed_last : (t : Option Text) (ls : List LocationContent) (l : LocationContent) → trailed_at (length ls) t (ls ++ l ∷ []) ≡ ls ++ record l { trailing_comments = t } ∷ []
trailed_last t [] l = refl
trailed_last t (x ∷ ls) l = ap (λ ys. x ∷ ys) (trailed_last t ls l)

among_more : (f : Front) (ls : List LocationContent) (l : LocationContent) → IsAmong (length ls) f → IsAmong (length (ls ++ l ∷ [])) f
among_more fronts.Nothing ls l h = tt
among_more fronts.Empty ls l h = tt
among_more (fronts.Statement k) ls l h = omega (arith, h, length-append ls (l ∷ []))

among_last : (ls : List LocationContent) (l : LocationContent) → length ls < length (ls ++ l ∷ [])
among_last ls l = omega (arith, length-append ls (l ∷ []))

collects : (s : State) (es : List Event) → IsAmong (length s.locations) s.front → ended (meets s es) ≡ in_front s es ++ behind s es
collects s [] h = sym (append-nil (in_front s []))
collects s (part path tail span ∷ es) h =
    let l = location s.line_feeds path tail span in
    collects (meet s (part path tail span)) es (among_more s.front s.locations l h)
    ∙ ap (λ ls. ls ++ behind s es) (trailed_more s.front (gap_notes s.source s.gap_start (may_trail s.front) es).trailing s.locations l h)
    ∙ append_assoc (in_front s es) (l ∷ []) (behind s es)
collects s (statement path tail span end ∷ es) h =
    let e = statement path tail span end in
    let l = led_by (notes_before s span.start behinds.Statement) (location s.line_feeds path tail span) in
    let t = meet s e in
    collects t es (among_last (in_front s (e ∷ es)) l)
    ∙ ap (λ ls. ls ++ behind t es) (trailed_last (gap_notes s.source end true es).trailing (in_front s (e ∷ es)) l)
    ∙ append_assoc (in_front s (e ∷ es)) (record l { trailing_comments = (gap_notes s.source end true es).trailing } ∷ []) (behind t es)
collects s (closing braces ∷ es) h = collects (meet s (closing braces)) es tt
collects s (empty span ∷ es) h = collects (meet s (empty span)) es tt

pub all_collected : (z : Text) (feeds : List ℕ) (es : List Event) → ended (meets (start z feeds) es) ≡ located z feeds es
all_collected z feeds es = collects (start z feeds) es tt
