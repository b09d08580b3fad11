use Rattle.std.proofs.Common.{refl}
use Rattle.clap.proofs.OnLiterals.{clap_on_literals}
use Rattle.command_line.proofs.law.worked_lines.Goals as goal

pub returns : goal.returns
unfolding clap_on_literals
returns c = record {
  no_host = refl;
  port_0 = refl;
  places_33 = refl;
  widest = refl;
  help = refl;
  version = refl;
  log_given = refl;
  log_not_given = refl;
  log_of_no_value = refl;
  from_given = refl;
  speed_given = refl;
  speed_not_given = refl;
  again_0 = refl;
  again_3601 = refl;
  stalled_9 = refl;
  stalled_601 = refl;
  view_only_given = refl;
  plain_runs_given = refl;
  full_bind_given = refl;
  metrics_given = refl;
  proxy_given = refl;
  proxy_not_given = refl;
  password_given = refl;
  password_not_given = refl;
  web_port_0 = refl;
  web_port_not_given = refl;
  origins_in_order = refl;
  next_in_order = refl;
  next_of_eight = refl;
  next_of_nine = refl;
  full_given = refl;
}
