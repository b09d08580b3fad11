-- `new` makes a value of no bytes, at the course that its type parameter names.
use Rattle.std.proofs.Common.{[], ◌∷◌, refl}
use seplogic.Ra.Ura.{Ura}
use mir.Syntax.{a_type, dcons, dnil}
use mir.MapTy.{inst_fn}
use denote.Param.{bounded}
use mir.Val.{Val, vstruct, vcons, vnil}
use base.Logic.{SProp, ent, sep, emp}
use base.Fml.{ftrue, fsep, flft}
use types.Logic.{Logic, sem}
use types.Kit.{‵, raw, ◌⊛◌, ◌$◌, ◌∵◌, !, qed, by, move, keep, split, use0}
use types.Run.{no_more, and_then, returns, enter}
use types.ByLocal.{alloc_all, pass_all, free_all, look_at, get, sets}
use types.Part.{agg}
use contract.Monad.{fact_i}
use contract.Running.{tables}
use denote.Shadow.{pure_i}
use denote.Steps.{nothing}
use denote.Signature.{type_at}
use denote.Triple.Clauses.{Ended, Clauses, Lasts, at_exit}
use denote.Triple.Entry.{Res, alive}
use denote.Triple.Walked.{Stays, Fit, has_of, walk_of}
use Rattle.atomic_table.proofs.Walks.{proved, leaves}
use Rattle.reflector.specs.declared.ran.Ran.{Ran}
use Rattle.reflector.specs.contracts.ran.Ran as T
use Rattle.reflector.specs.contracts.ran.Ran.new.{ended, clauses}
use Rattle.reflector.specs.contracts.ran.Ran.new.Key.{name as #self}
use Rattle.reflector.proofs.ran.Ran.new.Statement.{statement}
use Rattle.reflector.proofs.ran.Ran.new.Code as code

-- How the walk ends: with the tokens, the result, and what is ensured of it.
ends : {M : Type 1} {𝓤 : Ura M} (𝓛 : Logic 𝓤) (T : Ended) (hs : Stays T.signature.params T.kept) (c : Clauses 𝓤 T) (y : (walk_of 𝓛 T hs c).Ghost) (v : Val) (r : Res T.signature y.0.0) (ws : Lasts T y.0.0 y.0.3)
    → Fit T hs y.0.0 y.0.3 ws → ent 𝓤 (emp 𝓤) ((c y.0.0 y.0.3).ensures y.1 r (at_exit T y.0.0 y.0.3 ws))
    → ent 𝓤 (sep 𝓤 (alive 𝓛 T.signature y.0.0 y.0.1) (sep 𝓤 (sem 𝓛 (has_of y.0.0 T.signature.params T.kept hs y.0.3 ws y.0.4)) (sem 𝓛 ((type_at T.signature.result y.0.0).own_val r (v ∷ []))))) ((walk_of 𝓛 T hs c).post y v)
ends 𝓛 T hs c y v r ws fit told = qed 𝓛 (raw (alive 𝓛 T.signature y.0.0 y.0.1) ∷ ‵ (has_of y.0.0 T.signature.params T.kept hs y.0.3 ws y.0.4) ∷ ‵ ((type_at T.signature.result y.0.0).own_val r (v ∷ [])) ∷ []) ∵
    use0 𝓛 (raw ((c y.0.0 y.0.3).ensures y.1 r (at_exit T y.0.0 y.0.3 ws))) told $ move ! (1 ∷ 2 ∷ 3 ∷ []) $ by ! (leaves 𝓛 T hs c y v r ws fit)

abbrev v : Val
v = vstruct (vcons (vstruct vnil) vnil)

pub new_spec : {M : Type 1} → statement M
new_spec 𝓤 𝓛 𝓜 𝓡 wired C _ g d _ =
    let H = 𝓛.H in let 𝓣 = tables 𝓤 H 𝓜 𝓡 𝓡.env in let inst = bounded (a_type ∷ []) (C, tt) (dcons d dnil) in let fn = inst_fn inst code.function in let En = ended C g d in let c = clauses C g d 𝓛 𝓜.mem 𝓡.returns in
    let hs : Stays En.signature.params En.kept = tt in let r : Ran = record { marker = record {}; course = g.course } in
    proved 𝓛 En hs c 𝓜 𝓡 tt (#self inst) fn (code.unfolded 𝓤 H 𝓜 𝓡 wired (C, tt) d)
    (λ κs. tt) (λ κs. tt) (λ κs qs bounds a gh are.
    let y : (walk_of 𝓛 En hs c).Ghost = ((κs, qs, bounds, a, tt), gh) in let Post : Val → SProp 𝓤 = (walk_of 𝓛 En hs c).post y in
    qed 𝓛 ((‵ (fsep (flft κs.0 qs.0) ftrue) ⊛ ‵ ftrue) ∷ raw ((c κs a).requires gh) ∷ []) ∵ keep ! (0 ∷ []) $ split ! $ keep ! (0 ∷ []) $
    enter ! 𝓣.C 𝓣.Λ fn [] Post $ alloc_all ! (λ l. pass_all ! refl tt $
    sets ! (agg ! (no_more !)) refl (tt, tt) $ sets ! (agg ! (and_then ! (get ! refl) (no_more !))) refl (tt, (tt, tt)) $
    pure_i ! ((T.the_row).own_val r (v ∷ [])) ((λ vss. (tt, ((λ uss. (tt, tt)), tt))), tt) (((vstruct vnil ∷ [], tt), (refl, ((tt, (refl, tt)), tt))), tt) $
    nothing ! $ returns ! (look_at ! 0 refl) $ free_all ! refl $ keep ! (2 ∷ 0 ∷ 1 ∷ []) $ by ! (ends 𝓛 En hs c y v r tt tt (fact_i 𝓤 _ (emp 𝓤) refl))))
