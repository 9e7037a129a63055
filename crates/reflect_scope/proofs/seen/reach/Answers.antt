use Rattle.std.proofs.Common.{◌≡◌, ◌<◌, ◌≤◌, ◌+◌, length, take, get_or, ap, sym, subst, ◌∙◌, arith, inl, inr, ℕ, rules}
use Rattle.std.specs.List.{Contains}
use Rattle.std.proofs.lemmas.List.{take_all, length-append}
use Rattle.std.proofs.lemmas.List.Elements.{Contains-append_cases}
use Rattle.reflect_scope.specs.Marks.{Extends, IsMarked, AreListed}
use Rattle.reflect_scope.specs.Sees.{imports_at, publics_at, Sees}
use Rattle.reflect_scope.proofs.Search.{search_start, search_more, found, Searching, publics_dead, extends_keeps}
use Rattle.reflect_scope.proofs.Listed.{marked_none}
use Rattle.reflect_scope.proofs.seen.reach.Goals as goal

pub reach-init : goal.reach-init
reach-init c =
    let files = c.args.files.now in
    let starts = imports_at files c.args.file in
    let order = c.mark_all.new.order.items in
    let marks = c.mark_all.new.marks.items in
    let is : c.imports.result.now ≡ starts = c.imports.ensures in
    let was : IsMarked c.args.marks.now.items c.args.order.now.items = subst (IsMarked c.args.marks.now.items) (sym c.requires.none) (marked_none c.args.marks.now.items c.requires.clear) in
    let listed : AreListed c.args.marks.now.items c.args.order.now.items = λ g e. absurd (c.requires.clear g e) in
    let same = c.mark_all.ensures.same in
    record {
      marked = c.in_ok-mark_all.ensures.marked was;
      listed = c.mark_all.ensures.listed listed;
      room = subst (λ n. length files ≡ n) (sym same) c.requires.room;
      within = omega arith;
      searching = search_start (length marks) (publics_at files) starts order
          (subst (λ xs. Extends (Contains starts) xs order) c.requires.none (subst (λ xs. Extends (Contains xs) c.args.order.now.items order) is c.in_ok-mark_all.ensures.grown))
          (λ g h lt. c.in_ok-mark_all.ensures.there was g (subst (λ xs. Contains xs g) (sym is) h) (subst (λ n. g < n) same lt));
    }

pub reach-preserved : goal.reach-preserved
reach-preserved c =
    let files = c.args.files.now in
    let p = publics_at files in
    let starts = imports_at files c.args.file in
    let at = c.index-current.result.now in
    let k = c.reach.next in
    let order = c.reach.order.items in
    let marks = c.reach.marks.items in
    let new = c.mark_all-in-reach.new.order.items in
    let lt : k < length order = search rules in
    let here : at ≡ get_or order k at = c.index-current.ensures in
    let is : c.publics.result.now ≡ p (get_or order k at) = c.publics.ensures ∙ ap p here in
    let e = c.in_ok-mark_all-2.ensures.grown in
    let same = c.mark_all-in-reach.ensures.same in
    let longer : length new ≡ length order + length e.more = ap length e.is ∙ length-append order e.more in
    record {
      marked = c.in_ok-mark_all-2.ensures.marked c.reach.invariant.marked;
      listed = c.mark_all-in-reach.ensures.listed c.reach.invariant.listed;
      room = subst (λ n. length files ≡ n) (sym same) c.reach.invariant.room;
      within = omega (arith, longer);
      searching = subst (λ n. Searching n p starts new (take (k + 1) new)) (sym same)
          (search_more (length marks) p starts order new k at lt c.reach.invariant.searching
          (subst (λ xs. Extends (Contains xs) order new) is e)
          (λ g h l. c.in_ok-mark_all-2.ensures.there c.reach.invariant.marked g (subst (λ xs. Contains xs g) (sym is) h) l));
    }

pub returns-clause-sees : goal.returns-clause-sees
returns-clause-sees c =
    let files = c.args.files.now in
    let p = publics_at files in
    let f = c.args.file in
    let starts = imports_at files f in
    let order = c.reach.order.items in
    let marks = c.reach.marks.items in
    let new = c.mark.new.order.items in
    let ended : take c.reach.next order ≡ order = take_all c.reach.next order (search rules) in
    let s = subst (Searching (length marks) p starts order) ended c.reach.invariant.searching in
    let m = c.in_ok-mark.ensures.marked c.reach.invariant.marked in
    let e = c.in_ok-mark.ensures.grown in
    let room : length files ≤ length marks = let is = c.reach.invariant.room in omega (arith, is) in
    let dead = publics_dead files (length marks) room in
    let sound : (g : ℕ) → Contains new g → Sees files f g = λ g h. elim (Contains-append_cases order e.more g (subst (λ xs. Contains xs g) e.is h)) [
      | inl was ↦ inr (s.sound g was)
      | inr more ↦ inl (e.each g more)
    ] in
    λ g lt.
    let within : g < length marks = omega (arith, room) in (
      λ h. sound g (m.listed g h),
      λ h. m.marked g (elim h [
        | inl is ↦ subst (Contains new) (sym is) (c.in_ok-mark.ensures.there c.reach.invariant.marked (subst (λ x. x < length marks) is within))
        | inr r ↦ extends_keeps (λ x. x ≡ f) order new e g (found (length marks) p starts order dead s g within r)
      ]),
    )

pub returns-clause-same : goal.returns-clause-same
returns-clause-same c = c.mark.ensures.same ∙ sym c.reach.invariant.room
