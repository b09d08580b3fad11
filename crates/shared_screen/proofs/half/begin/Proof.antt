-- `begin` makes the number of changes, and gives the rule one share of it and the owner the other.
use Rattle.std.proofs.Common.{ℕ, true, List, [], ◌∷◌, ◌++◌, refl}
use mir.Syntax.{a_type, dcons, dnil}
use mir.MapTy.{inst_fn}
use denote.Param.{param, bounded}
use mir.Val.{Val, vstruct, vcons, vnil, of_list}
use base.Logic.{SProp, emp}
use base.Fml.{ftrue, fsep, feq, flft}
use types.Kit.{‵, raw, ◌⊛◌, some, later, ◌$◌, ◌∵◌, !, qed, by, move, keep, split, fjoin, fpack, pick, use0, await, feq_i}
use types.Run.{no_more, and_then, returns, enter}
use types.ByLocal.{alloc_all, pass_all, free_all, look_at, get, sets, env}
use types.Part.{agg}
use contract.Monad.{fact_i}
use contract.Running.{tables}
use denote.RattleType.{RattleType, owns, Valss}
use denote.Builtin.{u64, unit}
use denote.Steps.{nothing}
use denote.Struct.Tuple.{Tuple}
use denote.Triple.Walked.{Stays, walk_of}
use Rattle.atomic_table.proofs.Walks.{proved}
use Rattle.logbook.specs.contracts.tokens.Start as Start
use Rattle.logbook.proofs.Fields.{token, Token, token_made, ends}
use Rattle.shared_screen.specs.Shares.{kept, holding}
use Rattle.shared_screen.specs.contracts.change.Change as Change
use Rattle.shared_screen.specs.contracts.half.Half as Half
use Rattle.shared_screen.specs.contracts.law.Law as Law
use Rattle.shared_screen.specs.contracts.law.LawRuleChangeTuple2U64U64.TheImpl as rule
use Rattle.shared_screen.proofs.Shares.{begun}
use Rattle.shared_screen.specs.contracts.half.begin.{ended, clauses}
use Rattle.shared_screen.specs.contracts.half.begin.Key.{name as #self}
use Rattle.shared_screen.proofs.half.begin.Statement.{statement}
use Rattle.shared_screen.proofs.half.begin.Code as code

pub begin_spec : {M : Type 1} → statement M
begin_spec 𝓤 𝓛 𝓜 𝓡 wired P _ g d _ =
    let H = 𝓛.H in let 𝓣 = tables 𝓤 H 𝓜 𝓡 𝓡.env in let inst = bounded (a_type ∷ []) (P, tt) (dcons d dnil) in let fn = inst_fn inst code.function in let En = ended P g d in let c = clauses P g d 𝓛 𝓜.mem 𝓡.returns in let P' : RattleType = param 0 P in let ruled = rule.ghosts P' g rule.no_dict in
    let A : RattleType = Tuple (u64 ∷ u64 ∷ []) in let All : RattleType = Tuple (Change.the_row ∷ A ∷ (Law.the_row P') ∷ []) in let Sr : RattleType = Start.the_row Change.the_row A (Law.the_row P') ruled in
    let hs : Stays En.signature.params En.kept = tt in
    proved 𝓛 En hs c 𝓜 𝓡 tt (#self inst) fn (code.unfolded 𝓤 H 𝓜 𝓡 wired (P, tt) d)
    (λ κs. tt) (λ κs. tt) (λ κs qs bounds a gh are.
    let y : (walk_of 𝓛 En hs c).Ghost = ((κs, qs, bounds, a, tt), gh) in let Post : Val → SProp 𝓤 = (walk_of 𝓛 En hs c).post y in
    qed 𝓛 ((‵ (fsep (flft κs.0 qs.0) ftrue) ⊛ ‵ ftrue) ∷ raw ((c κs a).requires gh) ∷ []) ∵ keep ! (0 ∷ []) $ split ! $ keep ! (0 ∷ []) $
    enter ! 𝓣.C 𝓣.Λ fn ([]) Post $ alloc_all ! (λ l. pass_all ! refl tt $ let Ev = env fn.locals l in
    use0 𝓛 (later (some (λ (δ : ℕ). ‵ (kept (δ ∷ []) []) ⊛ ‵ (holding (δ ∷ []) true 0)))) (begun 𝓛) $ await ! tt $ pick ! (λ δ. split ! $
    use0 𝓛 (‵ ((Token All).own_val (record {}, tt) (token ∷ []))) (token_made All 𝓛) $ fjoin ! $
    use0 𝓛 (‵ ((Token unit).own_val (record {}, tt) (token ∷ []))) (token_made unit 𝓛) $ move ! (0 ∷ 2 ∷ []) $ fjoin ! $
    sets ! (agg ! (no_more !)) refl (tt, tt) $ sets ! (agg ! (and_then ! (get ! refl) (no_more !))) refl (tt, (tt, tt)) $
    sets ! (agg ! (no_more !)) refl (tt, tt) $ sets ! (agg ! (and_then ! (get ! refl) (no_more !))) refl (tt, (tt, tt)) $
    sets ! (agg ! (and_then ! (get ! refl) (and_then ! (get ! refl) (no_more !)))) refl (tt, ((tt, tt), ((tt, tt), tt))) $
    nothing ! $ move ! (1 ∷ 0 ∷ []) $ fjoin ! $ move ! (1 ∷ 0 ∷ []) $ fjoin ! $
    let v : Val = vstruct (vcons token (vcons token vnil)) in let Rs : List RattleType = Sr ∷ Half.the_row ∷ [] in
    let s : Sr.Denot = record { marker = record {}; names = δ ∷ []; shown = [] } in let h : Half.the_row.Denot = record { marker = record {}; names = δ ∷ []; here = true; number = 0 } in
    feq_i ! (List Val) (v ∷ []) (v ∷ []) refl $ fjoin ! $ fpack ! (Valss Rs) (λ vss. fsep (feq (List Val) (v ∷ []) (vstruct (of_list (vss.0 ++ (vss.1.0 ++ []))) ∷ [])) (owns Rs (s, (h, tt)) vss)) (token ∷ [], (token ∷ [], tt)) $
    nothing ! $ returns ! (look_at ! 0 refl) $ free_all ! refl $ keep ! (2 ∷ 0 ∷ 1 ∷ []) $ by ! (ends 𝓛 En hs c y v (s, h) tt tt (fact_i 𝓤 _ (emp 𝓤) (refl, refl, refl, refl))))))
