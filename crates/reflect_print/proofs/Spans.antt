-- Entries of a message, one behind another.
use Rattle.std.proofs.Common.{◌≡◌, ℕ, Bool, true, false, List, [], ◌∷◌, ◌++◌, map, subst, sym, ap, ap₂, ◌∙◌, refl, append-nil}
use Rattle.reflect_message.specs.Names.{DynamicMessage, Value}
use Rattle.reflect_contents.specs.Walked.{FieldGiven, Holding, of_message}
use Rattle.text_lines.specs.Pieces.{before_item}
use Rattle.text_lines.specs.declared.lines.Items.{Items}
use Rattle.text_lines.specs.declared.options.FormatOptions.{FormatOptions}
use Rattle.text_lines.proofs.Appending.{OneBehind, adds_both}
use Rattle.text_lines.proofs.Fronts.{IsFront}
use Rattle.print_parts.specs.Entries.{Entry, field, set_entry, AreDeclared, AreOthers}
use Rattle.reflect_print.specs.MessageTexts.{IsRowText, no_entries, more_entries, IsEntryText, IsPairText, AreItems, any_behind}
use Rattle.reflect_print.specs.Named.{Named}
use Rattle.reflect_print.specs.Written.{IsSpan}
use Rattle.reflect_scalar.specs.declared.map_key.MapKey.{MapKey}
use Rattle.reflect_print.proofs.Loops.{begun, next_one, all_of}

-- a field that a walk gives
abbrev pub given_entry : FieldGiven → Entry
given_entry g = field g.0.pool.now g.1.0 g.1.1

pub given_all : (m : DynamicMessage) (hs : List Holding) → map given_entry (of_message m.descriptor hs) ≡ map (set_entry m) hs
given_all m [] = refl
given_all m (h ∷ hs) = ap (λ (es : List Entry). set_entry m h ∷ es) (given_all m hs)

behind_some : (es : List Entry) → any_behind true es ≡ true
behind_some [] = refl
behind_some (e ∷ es) = refl

module _ (form : FormatOptions) (payloads x i : ℕ) (old : List ℕ) (items : Items) (all : List Entry) where
  -- so many stand there that those that are left make them whole
  pub record IsSpanFront (now : List ℕ) (current : Items) (options : FormatOptions) (rest : List Entry) : Type 0 where
    pub row : IsFront (IsRowText form payloads x i items.in_braces) old [] items.any all now current.any rest
    pub braces : current.in_braces ≡ items.in_braces
    pub some : any_behind current.any rest ≡ any_behind items.any all
    pub same : options ≡ form

  pub span_begun : (current : Items) (options : FormatOptions) (rest : List Entry) → current ≡ items → options ≡ form → rest ≡ all → IsSpanFront old current options rest
  span_begun current options rest c o r = record {
    row = begun (IsRowText form payloads x i items.in_braces) old old [] items.any all rest current.any (ap (λ j. j.any) c) r (sym (append-nil old));
    braces = ap (λ j. j.in_braces) c;
    some = ap₂ any_behind (ap (λ j. j.any) c) r;
    same = o;
  }

  pub span_more : (now mid next : List ℕ) (current turned : Items) (options second third : FormatOptions) (e : Entry) (es left : List Entry)
      → turned ≡ record current { any = true } → second ≡ options → third ≡ second → left ≡ e ∷ es
      → IsSpanFront now current options left
      → mid ≡ now ++ before_item options.pretty current.in_braces current.any i
      → OneBehind mid (IsEntryText second payloads x i e) next
      → IsSpanFront next turned third es
  span_more now mid next current turned options second third e es left t s d l f w v = record {
    row = next_one (IsRowText form payloads x i items.in_braces) (λ (o : FormatOptions) (y : Entry) (z : List ℕ). IsEntryText o payloads x i y z)
        (λ (p : FormatOptions × Bool) (any : Bool). before_item p.0.pretty p.1 any i) true (form, items.in_braces) form
        (λ any y ys one rest o r. more_entries one rest o r)
        old now mid next [] items.any all current.any turned.any e es left (options, current.in_braces) second
        (ap₂ (λ (o : FormatOptions) (b : Bool). (o, b)) f.same f.braces) (s ∙ f.same) (ap (λ j. j.any) t) l f.row w v;
    braces = ap (λ j. j.in_braces) t ∙ f.braces;
    some = ap (λ (b : Bool). any_behind b es) (ap (λ j. j.any) t) ∙ behind_some es ∙ sym (ap (any_behind current.any) l) ∙ f.some;
    same = d ∙ (s ∙ f.same);
  }

  pub span_whole : (Are : List Entry → Type 0) (now : List ℕ) (current : Items) (options : FormatOptions) (left : List Entry)
      → left ≡ [] → Are all → IsSpanFront now current options left
      → OneBehind old (IsSpan form payloads x i items current Are) now
  span_whole Are now current options left l are f =
      let done : current.any ≡ any_behind items.any all = ap (any_behind current.any) (sym l) ∙ f.some in (
        f.row.front,
        (
          all,
          are,
          all_of (IsRowText form payloads x i items.in_braces) old now [] items.any all current.any left l no_entries f.row,
          ap₂ (λ (b a : Bool). record { in_braces = b; any = a }) f.braces done,
        ),
        f.row.written,
      )

-- the declared fields, and behind them the others
pub both_spans : (form second : FormatOptions) (payloads x i : ℕ) (braces : Bool) (m : DynamicMessage) (old mid next : List ℕ) (zero one two : Items)
    → zero ≡ record { in_braces = braces; any = false } → second ≡ form
    → OneBehind old (IsSpan form payloads x i zero one (AreDeclared form m)) mid
    → OneBehind mid (IsSpan second payloads x i one two (AreOthers second m)) next
    → OneBehind old (AreItems form payloads x i braces m two.any) next
both_spans form second payloads x i braces m old mid next zero one two z s (y, (ds, are, row, after), v) b =
    let d = subst (λ f. OneBehind mid (IsSpan f payloads x i one two (AreOthers f m)) next) s b in
    let now : one ≡ record { in_braces = braces; any = any_behind false ds } = after ∙ ap (λ (j : Items). record j { any = any_behind j.any ds }) z in
    let second_row = subst (λ (j : Items). IsRowText form payloads x i j.in_braces j.any d.1.0 d.0) now d.1.2 in (
      y ++ d.0,
      record {
        ds = ds;
        os = d.1.0;
        y = y;
        z = d.0;
        declared = are;
        others = d.1.1;
        first = subst (λ (j : Items). IsRowText form payloads x i j.in_braces j.any ds y) z row;
        second = second_row;
        whole = refl;
        some = ap (λ j. j.any) d.1.3 ∙ ap (λ (j : Items). any_behind j.any d.1.0) now;
      },
      adds_both old next y d.0 v d.2,
    )

-- an entry that is looked at through another one
pub entry_as : (form : FormatOptions) (payloads x i : ℕ) (mid next : List ℕ) (a b : Entry) → a ≡ b
    → OneBehind mid (IsEntryText form payloads x i a) next → OneBehind mid (IsEntryText form payloads x i b) next
entry_as form payloads x i mid next a b e = subst (λ y. OneBehind mid (IsEntryText form payloads x i y) next) e

-- a map's entry, whose value's kind is looked at through another one
pub pair_as : (form : FormatOptions) (payloads x i : ℕ) (pair : MapKey × Value) (mid next : List ℕ) (a b : Named) → a ≡ b
    → OneBehind mid (IsPairText form payloads x i a pair) next → OneBehind mid (IsPairText form payloads x i b pair) next
pair_as form payloads x i pair mid next a b e = subst (λ k. OneBehind mid (IsPairText form payloads x i k pair) next) e
