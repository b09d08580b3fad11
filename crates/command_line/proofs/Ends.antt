-- What serving and playing may end with, a task may. `run_words` tells the status alone.
use Rattle.std.proofs.Common.{ℕ}
use Rattle.serve.specs.Statuses.{IsStatus}
use Rattle.settings.specs.declared.values.Settings.{Settings}
use Rattle.command_line.specs.declared.task.Task.{Task}
use Rattle.command_line.specs.declared.task.Task.TheVariants.{Replay, Serve, Control, Show, Explain}
use Rattle.command_line.specs.Tasks.{EndsAs, IsDone, MayEndAScript, MayEndAShowing, MayEndAnAsking}

pub ends_as : (serves : Settings → ℕ → Type 0) (plays asks shows : ℕ → Type 0) (task : Task) (status : ℕ) → IsDone serves plays asks shows task status
    → ((settings : Settings) (s : ℕ) → serves settings s → IsStatus s) → ((s : ℕ) → plays s → MayEndAScript s) → ((s : ℕ) → asks s → MayEndAnAsking s) → ((s : ℕ) → shows s → MayEndAShowing s) → EndsAs task status
ends_as serves plays asks shows Replay status done served played asked shown = played status done
ends_as serves plays asks shows (Serve settings) status done served played asked shown = served settings status done
ends_as serves plays asks shows Control status done served played asked shown = asked status done
ends_as serves plays asks shows Show status done served played asked shown = shown status done
ends_as serves plays asks shows (Explain bad) status done served played asked shown = done
