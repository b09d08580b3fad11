-- Each value is that of its option.
use Rattle.command_line.proofs.options.values.Goals as goal

pub returns : goal.returns
returns c = record {
  host = c.in_ok-text.ensures;
  host_password = c.in_ok-optional_text.ensures;
  bind = c.in_ok-text-2.ensures;
  full_bind = c.in_ok-optional_text-2.ensures;
  full = c.port.ensures;
  view = c.port-2.ensures;
  view_only = c.flag.ensures;
  full_password = c.in_ok-optional_text-3.ensures;
  view_password = c.in_ok-optional_text-4.ensures;
  full_places = c.places.ensures;
  view_places = c.places-2.ensures;
  room = c.requires.room;
  from = c.requires.from;
  speed = c.requires.speed;
  plain_runs = c.flag-2.ensures;
  no_zrle = c.flag-3.ensures;
  web_full = c.optional_port.ensures;
  web_view = c.optional_port-2.ensures;
  web_root = c.in_ok-optional_text-5.ensures;
  web_origins = c.in_ok-texts.ensures;
  metrics = c.in_ok-optional_text-6.ensures;
  proxy_from = c.in_ok-optional_text-7.ensures;
  log = c.flag-4.ensures;
  again = c.pause.ensures;
  stalled = c.seconds.ensures;
  control = c.in_ok-optional_text-8.ensures;
  recording = c.in_ok-optional_text-9.ensures;
  recording_key = c.seconds-2.ensures;
  next = c.in_ok-texts-2.ensures;
}
