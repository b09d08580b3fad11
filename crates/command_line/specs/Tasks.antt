-- What a line asks for. Its words are those after the program's name.
use Rattle.std.specs.Prelude.{◌≡◌, ◌≢◌, ◌<◌, ◌≤◌, ◌⊎◌, ◌∷◌, List, [], codes, length, ℕ}
use Rattle.clap.specs.Words.{Text}
use Rattle.serve.specs.Statuses.{IsStatus}
use Rattle.command_line.specs.Given.{AreSetBy, IsBadLine}
use Rattle.settings.specs.declared.values.Settings.{Settings}
use Rattle.command_line.specs.declared.task.Task.{Task}
use Rattle.command_line.specs.declared.task.Task.TheVariants.{Replay, Serve, Control, Show, Explain}

-- The line of `replay`, which has no further words.
abbrev pub replay_line : List Text
replay_line = codes "replay" ∷ []

-- A line of `control` has a path and, after it, at least one word of a request.
abbrev pub IsControlLine : List Text → Type 0
IsControlLine words = (rest : List Text) × (words ≡ codes "control" ∷ rest) × (1 < length rest)

-- A line of `show` has at least two further words.
abbrev pub IsShowLine : List Text → Type 0
IsShowLine words = (rest : List Text) × (words ≡ codes "show" ∷ rest) × (1 < length rest)

-- Nothing can be done: the line isn't that of `replay`, of `control` or of `show`, and if it is one of `serve`, then its
-- options are at fault, or memory was refused. The status is 2, or 4 where memory was refused.
pub record IsNoTask (words : List Text) (status : ℕ) : Type 0 where
  pub no_replay : words ≢ replay_line
  pub no_control : ¬ IsControlLine words
  pub no_show : ¬ IsShowLine words
  pub no_serve : (rest : List Text) → words ≡ codes "serve" ∷ rest → IsBadLine rest status
  pub two_or_four : (status ≡ 2) ⊎ (status ≡ 4)

-- What the words ask for: `replay` alone to play a script, `control` to ask something of a run, `show` to make pictures
-- of a recording, and `serve` with its options to reflect a host as they say.
abbrev pub IsAsked : List Text → Task → Type 0
IsAsked words Replay = words ≡ replay_line
IsAsked words (Serve settings) = (rest : List Text) × (words ≡ codes "serve" ∷ rest) × AreSetBy rest settings
IsAsked words Control = IsControlLine words
IsAsked words Show = IsShowLine words
IsAsked words (Explain bad) = IsNoTask words bad.status

-- What was done: a script was played, a run was asked, pictures were made, or the settings of the line were served, and
-- that ended with this status. A line that asks for nothing that can be done has its own status.
abbrev pub IsDone : (serves : Settings → ℕ → Type 0) → (plays asks shows : ℕ → Type 0) → Task → ℕ → Type 0
IsDone serves plays asks shows Replay status = plays status
IsDone serves plays asks shows (Serve settings) status = serves settings status
IsDone serves plays asks shows Control status = asks status
IsDone serves plays asks shows Show status = shows status
IsDone serves plays asks shows (Explain bad) status = status ≡ bad.status

-- The statuses with which a script may end: 0, and 2 to 4.
abbrev pub MayEndAScript : ℕ → Type 0
MayEndAScript status = (status ≡ 0) ⊎ ((2 ≤ status) × (status ≤ 4))

-- The statuses with which asking may end: 0 where what was asked for is done, and 1 where it isn't.
abbrev pub MayEndAnAsking : ℕ → Type 0
MayEndAnAsking status = (status ≡ 0) ⊎ (status ≡ 1)

-- The statuses with which showing may end: 0; 2 where the line can't be read; 3 where there is nothing to show, or it
-- can't be written; or 4.
abbrev pub MayEndAShowing : ℕ → Type 0
MayEndAShowing status = (status ≡ 0) ⊎ ((2 ≤ status) × (status ≤ 4))

-- The statuses with which a task may end: those of a script, of `serve`, of asking or of showing, and for a line that asks for
-- nothing that can be done its own status.
abbrev pub EndsAs : Task → ℕ → Type 0
EndsAs Replay status = MayEndAScript status
EndsAs (Serve settings) status = IsStatus status
EndsAs Control status = MayEndAnAsking status
EndsAs Show status = MayEndAShowing status
EndsAs (Explain bad) status = status ≡ bad.status

-- The words ask for a task, and the status is one with which it may end.
abbrev pub IsAnswered : List Text → ℕ → Type 0
IsAnswered words status = (task : Task) × IsAsked words task × EndsAs task status
