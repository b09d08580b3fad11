-- A line of `serve` whose options can't be read. Such a line asks for no task, as `task_of` answers.
use Rattle.std.proofs.Common.{◌∙◌, ◌≡◌, ◌∷◌, ap, arith, inl, inr, subst, sym, List, [], ℕ}
use Rattle.std.specs.Prelude.{codes}
use Rattle.clap.specs.Words.{Text}
use Rattle.command_line.specs.Given.{IsBadLine}
use Rattle.command_line.specs.Tasks.{IsNoTask}

-- the words after the first
abbrev behind : List Text → List Text
behind [] = []
behind (first ∷ rest) = rest

pub is_no_task : (words rest : List Text) (status : ℕ) → words ≡ codes "serve" ∷ rest → IsBadLine rest status → IsNoTask words status
is_no_task words rest status line bad = record {
  no_replay = λ same. grind arith;
  no_control = λ other. grind arith;
  no_show = λ other. grind arith;
  no_serve = λ other same. subst (λ (r : List Text). IsBadLine r status) (ap behind (sym line ∙ same)) bad;
  two_or_four = elim bad [
    | inl (inl four) ↦ inr four
    | inl (inr two) ↦ inl two.0
    | inr two ↦ inl two.0
  ];
}
