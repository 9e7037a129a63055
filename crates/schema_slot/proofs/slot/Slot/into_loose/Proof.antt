-- `into_loose` reads the flag, and hands on the pointer of a full slot with what is owned there.
use Rattle.std.proofs.Common.{◌≡◌, [], ◌∷◌, refl, sym, lit<}
use mathlib.Core.Bool.{true}
use mir.Val.{Val, vcons, vnil, has_ty}
use mir.Syntax.{ty_ptr}
use base.Logic.{SProp, emp}
use types.Kit.{‵, raw, ◌⊛◌, at_ret, ◌$◌, ◌∵◌, !, qed, by, move, keep, drop, split, fsplit, fsplit3, fjoin, use0, use1}
use types.Run.{stop, fld, lit, of_opd, no_more, and_then, first, branches, exec, returns, enter}
use types.ByLocal.{alloc_all, pass_all, free_all, look_at, get, get_in, sets, sets_last, env}
use types.Part.{agg, sub, whole}
use types.Match.{live}
use contract.Running.{tables}
use contract.Monad.{fact, fact_i}
use denote.Exit.{yes}
use denote.RattleType.{RattleType, owns}
use denote.Signature.{types_at, type_at, plain}
use denote.RawPtr.{ptr_val}
use denote.Param.{layout}
use denote.Steps.{nothing}
use denote.Triple.Entry.{alive}
use denote.Triple.Walked.{Stays, stay_dropped, walk_of, Goes-dropped}
use Rattle.core.proofs.alloc.Calls.{Goes-blank}
use Rattle.core.proofs.atomic.Steps.{Ptr-Good}
use Rattle.core.proofs.cell.Inside.{Good}
use Rattle.core.proofs.option.Made.{Some-of, none_of}
use Rattle.std_alloc.proofs.ResultValues.{and_tt}
use Rattle.std.proofs.raw_atomic.Walks.{proved, leaves}
use Rattle.std.specs.Prelude.{Option, Some, None}
use Rattle.std.specs.contracts.alloc.Global as heap
use Rattle.std.proofs.alloc.Global.TheLaws as heap_laws
use Rattle.std.specs.contracts.impls.GlobalAllocator.TheImpl.{ghosts}
use Rattle.schema_slot.specs.declared.session.Session.{Session}
use Rattle.schema_slot.specs.contracts.session.Session as session
use Rattle.schema_slot.specs.contracts.slot.Slot as slot
use Rattle.schema_slot.proofs.slot.Slot.TheLaws as slot_laws
use Rattle.schema_slot.proofs.Values.{both, both_tt, Loose}
use Rattle.schema_slot.proofs.SlotSteps.{word, slot_full, slot_empty, loose_at}
use Rattle.schema_slot.specs.contracts.slot.Slot.into_loose as f
use Rattle.schema_slot.proofs.slot.Slot.into_loose.Statement.{statement}
use Rattle.schema_slot.proofs.slot.Slot.into_loose.Code as code

pub into_loose_spec : {M : Type 1} → statement M
into_loose_spec 𝓤 𝓛 𝓜 𝓡 wired =
    let H = 𝓛.H in let 𝓣 = tables 𝓤 H 𝓜 𝓡 𝓡.env in let En = f.ended in let c = f.clauses 𝓛 𝓜.mem 𝓡.returns in let fn = code.function in
    let Z : RattleType = heap.the_row in let LZ = heap_laws.the_row_laws in let Lr : RattleType = Loose session.the_row Z LZ ghosts in
    let hs : Stays En.signature.params En.kept = (stay_dropped (plain (λ _. slot.the_row)) yes, (stay_dropped (plain (λ _. Z)) yes, tt)) in
    proved 𝓛 En hs c 𝓜 𝓡 (Goes-blank 𝓛 0 (plain (λ _. slot.the_row)) yes (λ κs x f. tt), (Goes-dropped 𝓛 0 (plain (λ _. Z)) yes (λ κs x f. refl), tt)) f.Key.name fn (code.unfolded 𝓤 H 𝓜 𝓡 wired)
    (λ κs. ((λ d. slot_laws.lowered d ∷ []), ((λ a. heap_laws.lowered a ∷ []), tt))) (λ κs. (slot_laws.lowers.val_is, (heap_laws.lowers.val_is, tt))) (λ κs qs bounds a gh are.
    let d = a.0 in let al = a.1.0 in let w : Val = word d.at d.full in let h : Val = heap_laws.lowered al in
    let y : (walk_of 𝓛 En hs c).Ghost = ((κs, qs, bounds, a, (w ∷ [], (h ∷ [], tt))), gh) in let Post : Val → SProp 𝓤 = (walk_of 𝓛 En hs c).post y in let Out : RattleType = type_at En.signature.result κs in
    let gp : Good ty_ptr (ptr_val d.at) = Ptr-Good d.at in let gz : Good (layout Z) h = ((LZ.lawful 𝓛).typed al (h ∷ []) are.1.0).0 in
    let m : Val = both (ptr_val d.at) h in let gm : Good (layout Lr) m = (both_tt (has_ty ty_ptr (ptr_val d.at)) (has_ty (layout Z) h) gp.0 gz.0, (gp.1, (gz.1, tt))) in
    let v₁ : Val = live 1 (vcons m vnil) in let good : Good (layout Out) v₁ = (and_tt _ gm.0, (record { fits = lit< tt }, (gm.1, tt))) in
    qed 𝓛 ((raw (alive 𝓛 En.signature κs qs) ⊛ ‵ (owns (types_at En.signature.params κs) a (w ∷ [], (h ∷ [], tt)))) ∷ raw ((c κs a).requires gh) ∷ []) ∵
    split ! $ move ! (1 ∷ []) $ fsplit3 ! $ fsplit ! $ drop ! $
    -- [what the slot owns beside its fields; the handle; nothing; the tokens; nothing]
    enter ! 𝓣.C 𝓣.Λ fn (w ∷ h ∷ []) Post $ alloc_all ! (λ l. pass_all ! refl ((both_tt (has_ty ty_ptr (ptr_val d.at)) true gp.0 tt, (gp.1, (tt, tt))), (gz, tt)) $ let Ev = env fn.locals l in
    sets ! (of_opd ! (get_in ! (fld ! refl (stop !)) (sub ! 0 refl (whole !)))) refl gp $
    sets ! (of_opd ! (get_in ! (fld ! refl (stop !)) (sub ! 1 refl (whole !)))) refl (tt, tt) $
    sets ! (of_opd ! (get ! refl)) refl (tt, tt) $ first ! $ branches ! (get ! refl)
    (λ is. sets ! (of_opd ! (get ! refl)) refl gp $ sets ! (agg ! (and_then ! (get ! refl) (and_then ! (get ! refl) (no_more !)))) refl gm $
    sets_last ! (agg ! (and_then ! (lit ! tt) (and_then ! (get ! refl) (no_more !)))) refl good $ exec ! 𝓣.C 𝓣.Λ Ev code.Mir.t-5 (at_ret Ev Post) $ sets ! (of_opd ! (get ! refl)) refl good $
    slot_full ! d.full d.at d.value is (λ x e. let dL : Lr.Denot = record { at = d.at; alloc = al; value = x } in let out : Option Session = Some x in
    loose_at ! d.at h al x $ use1 𝓛 (‵ (Out.own_val (Some dL) (v₁ ∷ []))) (Some-of 𝓛 Lr dL m) $
    use0 𝓛 (raw (fact 𝓤 (out ≡ d.value))) (fact_i 𝓤 (out ≡ d.value) (emp 𝓤) (sym e)) $ nothing ! $ nothing ! $ fjoin ! $ nothing ! $ fjoin ! $
    returns ! (look_at ! 0 refl) $ free_all ! refl $ keep ! (4 ∷ 0 ∷ 2 ∷ 1 ∷ []) $ by ! (leaves 𝓛 En hs c y v₁ (Some dL) _ (tt, (tt, tt)))))
    (λ not_full. sets_last ! (agg ! (and_then ! (lit ! tt) (no_more !))) refl (tt, (record { fits = lit< tt }, tt)) $ exec ! 𝓣.C 𝓣.Λ Ev code.Mir.t-5 (at_ret Ev Post) $
    sets ! (of_opd ! (get ! refl)) refl (tt, (record { fits = lit< tt }, tt)) $
    slot_empty ! d.full d.at d.value not_full (λ e. let out : Option Session = None in
    use0 𝓛 (‵ (Out.own_val None (live 0 vnil ∷ []))) (none_of 𝓛 Lr) $
    use0 𝓛 (raw (fact 𝓤 (out ≡ d.value))) (fact_i 𝓤 (out ≡ d.value) (emp 𝓤) (sym e)) $ nothing ! $ nothing ! $ fjoin ! $ nothing ! $ fjoin ! $
    returns ! (look_at ! 0 refl) $ free_all ! refl $ keep ! (6 ∷ 0 ∷ 2 ∷ 1 ∷ []) $ by ! (leaves 𝓛 En hs c y (live 0 vnil) None _ (tt, (tt, tt)))))))
