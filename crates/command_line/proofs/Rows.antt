-- What the definitions say of worked rows, computed.
use Rattle.std.proofs.Common.{◌≡◌, List, [], ◌∷◌, codes, true, false, Some, None, refl}
use Rattle.clap.specs.Words.{Text, fault_of, subcommand_of, takes}
use Rattle.clap.specs.declared.error.ErrorKind.TheVariants.{MissingRequiredArgument, UnknownArgument}
use Rattle.clap.proofs.OnLiterals.{clap_on_literals}
use Rattle.command_line.specs.declared.words.Engine.TheVariants.{Staged}
use Rattle.command_line.specs.declared.words.Target.TheVariants.{Two, Traffic}
use Rattle.command_line.specs.declared.words.Subcommand.TheVariants.{Replay, Upgrade, Slim, Snapshot, Inspect, Explain}
use Rattle.command_line.specs.CommandLine.{command_line, explain_command, inspect_command, replay_command, settings_command, slim_command, snapshot_command, upgrade_command, Found, file_of, engine_of, speed_of, is_given, subcommand_of_rows, target_of, value_of}

abbrev found_on : List Text → Found
found_on words = subcommand_of command_line words

abbrev words : List Text
words = codes "replay" ∷ codes "--snapshot" ∷ codes "s" ∷ codes "--capture" ∷ codes "c" ∷ codes "--replies" ∷ codes "o" ∷ []

abbrev fast : List Text
fast = codes "replay" ∷ codes "--snapshot" ∷ codes "s" ∷ codes "--capture" ∷ codes "c" ∷ codes "--replies" ∷ codes "o" ∷ codes "--engine" ∷ codes "fast" ∷ []

taken : takes command_line words ≡ true
unfolding clap_on_literals command_line replay_command upgrade_command slim_command snapshot_command inspect_command explain_command settings_command
taken = refl

snapshot : file_of (found_on words) (codes "snapshot") ≡ codes "s"
unfolding clap_on_literals command_line replay_command upgrade_command slim_command snapshot_command inspect_command explain_command settings_command
snapshot = refl

capture : file_of (found_on words) (codes "capture") ≡ codes "c"
unfolding clap_on_literals command_line replay_command upgrade_command slim_command snapshot_command inspect_command explain_command settings_command
capture = refl

settings : value_of (found_on words) (codes "settings") ≡ None
unfolding clap_on_literals command_line replay_command upgrade_command slim_command snapshot_command inspect_command explain_command settings_command
settings = refl

staged : engine_of (found_on words) ≡ Some Staged
unfolding clap_on_literals command_line replay_command upgrade_command slim_command snapshot_command inspect_command explain_command settings_command
staged = refl

recorded : speed_of (found_on words) ≡ Some 100
unfolding clap_on_literals command_line replay_command upgrade_command slim_command snapshot_command inspect_command explain_command settings_command
recorded = refl

abbrev at : Text → List Text
at percent = codes "replay" ∷ codes "--snapshot" ∷ codes "s" ∷ codes "--capture" ∷ codes "c" ∷ codes "--replies" ∷ codes "o" ∷ codes "--speed" ∷ percent ∷ []

doubled : speed_of (found_on (at (codes "200"))) ≡ Some 200
unfolding clap_on_literals command_line replay_command upgrade_command slim_command snapshot_command inspect_command explain_command settings_command
doubled = refl

slower : speed_of (found_on (at (codes "99"))) ≡ None
unfolding clap_on_literals command_line replay_command upgrade_command slim_command snapshot_command inspect_command explain_command settings_command
slower = refl

fastest : speed_of (found_on (at (codes "10000"))) ≡ Some 10000
unfolding clap_on_literals command_line replay_command upgrade_command slim_command snapshot_command inspect_command explain_command settings_command
fastest = refl

too_fast : speed_of (found_on (at (codes "10001"))) ≡ None
unfolding clap_on_literals command_line replay_command upgrade_command slim_command snapshot_command inspect_command explain_command settings_command
too_fast = refl

no_decimal : speed_of (found_on (at (codes "+200"))) ≡ None
unfolding clap_on_literals command_line replay_command upgrade_command slim_command snapshot_command inspect_command explain_command settings_command
no_decimal = refl

another : engine_of (found_on fast) ≡ None
unfolding clap_on_literals command_line replay_command upgrade_command slim_command snapshot_command inspect_command explain_command settings_command
another = refl

no_fault : fault_of command_line words ≡ []
unfolding clap_on_literals command_line replay_command upgrade_command slim_command snapshot_command inspect_command explain_command settings_command
no_fault = refl

fast_taken : fault_of command_line fast ≡ []
unfolding clap_on_literals command_line replay_command upgrade_command slim_command snapshot_command inspect_command explain_command settings_command
fast_taken = refl

missing : fault_of command_line (codes "replay" ∷ codes "--snapshot" ∷ codes "s" ∷ []) ≡ MissingRequiredArgument ∷ []
unfolding clap_on_literals command_line replay_command upgrade_command slim_command snapshot_command inspect_command explain_command settings_command
missing = refl

replayed : subcommand_of_rows (found_on words) ≡ Replay
unfolding clap_on_literals command_line replay_command upgrade_command slim_command snapshot_command inspect_command explain_command settings_command
replayed = refl

abbrev upgrade_words : List Text
upgrade_words = codes "upgrade" ∷ codes "--output" ∷ codes "n" ∷ codes "--capture=c" ∷ []

upgraded : subcommand_of_rows (found_on upgrade_words) ≡ Upgrade
unfolding clap_on_literals command_line replay_command upgrade_command slim_command snapshot_command inspect_command explain_command settings_command
upgraded = refl

upgrade_taken : takes command_line upgrade_words ≡ true
unfolding clap_on_literals command_line replay_command upgrade_command slim_command snapshot_command inspect_command explain_command settings_command
upgrade_taken = refl

upgrade_capture : file_of (found_on upgrade_words) (codes "capture") ≡ codes "c"
unfolding clap_on_literals command_line replay_command upgrade_command slim_command snapshot_command inspect_command explain_command settings_command
upgrade_capture = refl

upgrade_output : file_of (found_on upgrade_words) (codes "output") ≡ codes "n"
unfolding clap_on_literals command_line replay_command upgrade_command slim_command snapshot_command inspect_command explain_command settings_command
upgrade_output = refl

upgrade_to_two : target_of (found_on upgrade_words) (codes "to") ≡ Some Two
unfolding clap_on_literals command_line replay_command upgrade_command slim_command snapshot_command inspect_command explain_command settings_command
upgrade_to_two = refl

upgrade_to_traffic : target_of (found_on (codes "upgrade" ∷ codes "--to=traffic" ∷ codes "--output" ∷ codes "n" ∷ codes "--capture=c" ∷ [])) (codes "to") ≡ Some Traffic
unfolding clap_on_literals command_line replay_command upgrade_command slim_command snapshot_command inspect_command explain_command settings_command
upgrade_to_traffic = refl

upgrade_to_three : target_of (found_on (codes "upgrade" ∷ codes "--to" ∷ codes "3" ∷ codes "--output" ∷ codes "n" ∷ codes "--capture=c" ∷ [])) (codes "to") ≡ None
unfolding clap_on_literals command_line replay_command upgrade_command slim_command snapshot_command inspect_command explain_command settings_command
upgrade_to_three = refl

abbrev slim_words : List Text
slim_words = codes "slim" ∷ codes "--output" ∷ codes "n" ∷ codes "--capture=c" ∷ []

slimmed : subcommand_of_rows (found_on slim_words) ≡ Slim
unfolding clap_on_literals command_line replay_command upgrade_command slim_command snapshot_command inspect_command explain_command settings_command
slimmed = refl

slim_taken : takes command_line slim_words ≡ true
unfolding clap_on_literals command_line replay_command upgrade_command slim_command snapshot_command inspect_command explain_command settings_command
slim_taken = refl

slim_output : file_of (found_on slim_words) (codes "output") ≡ codes "n"
unfolding clap_on_literals command_line replay_command upgrade_command slim_command snapshot_command inspect_command explain_command settings_command
slim_output = refl

slim_to_traffic : target_of (found_on slim_words) (codes "format") ≡ Some Traffic
unfolding clap_on_literals command_line replay_command upgrade_command slim_command snapshot_command inspect_command explain_command settings_command
slim_to_traffic = refl

slim_to_two : target_of (found_on (codes "slim" ∷ codes "--format=2" ∷ codes "--output" ∷ codes "n" ∷ codes "--capture=c" ∷ [])) (codes "format") ≡ Some Two
unfolding clap_on_literals command_line replay_command upgrade_command slim_command snapshot_command inspect_command explain_command settings_command
slim_to_two = refl

slim_keeps_queries : is_given (found_on slim_words) (codes "drop-queries") ≡ false
unfolding clap_on_literals command_line replay_command upgrade_command slim_command snapshot_command inspect_command explain_command settings_command
slim_keeps_queries = refl

slim_drops_queries : is_given (found_on (codes "slim" ∷ codes "--drop-queries" ∷ codes "--output" ∷ codes "n" ∷ codes "--capture=c" ∷ [])) (codes "drop-queries") ≡ true
unfolding clap_on_literals command_line replay_command upgrade_command slim_command snapshot_command inspect_command explain_command settings_command
slim_drops_queries = refl

no_other_word_of_a_slim_text : fault_of command_line (codes "slim" ∷ codes "--to" ∷ codes "2" ∷ []) ≡ UnknownArgument ∷ []
unfolding clap_on_literals command_line replay_command upgrade_command slim_command snapshot_command inspect_command explain_command settings_command
no_other_word_of_a_slim_text = refl

no_queries_of_an_upgrade : fault_of command_line (codes "upgrade" ∷ codes "--drop-queries" ∷ []) ≡ UnknownArgument ∷ []
unfolding clap_on_literals command_line replay_command upgrade_command slim_command snapshot_command inspect_command explain_command settings_command
no_queries_of_an_upgrade = refl

no_output : fault_of command_line (codes "upgrade" ∷ codes "--capture" ∷ codes "c" ∷ []) ≡ MissingRequiredArgument ∷ []
unfolding clap_on_literals command_line replay_command upgrade_command slim_command snapshot_command inspect_command explain_command settings_command
no_output = refl

no_replies_of_an_upgrade : fault_of command_line (codes "upgrade" ∷ codes "--replies" ∷ codes "c" ∷ []) ≡ UnknownArgument ∷ []
unfolding clap_on_literals command_line replay_command upgrade_command slim_command snapshot_command inspect_command explain_command settings_command
no_replies_of_an_upgrade = refl

not_taken : takes command_line (codes "replay" ∷ codes "--snapshot" ∷ codes "s" ∷ []) ≡ false
unfolding clap_on_literals command_line replay_command upgrade_command slim_command snapshot_command inspect_command explain_command settings_command
not_taken = refl

abbrev snapshot_words : List Text
snapshot_words = codes "snapshot" ∷ codes "--output" ∷ codes "n" ∷ codes "--folder=f" ∷ []

abbrev skipping_words : List Text
skipping_words = codes "snapshot" ∷ codes "--skip" ∷ codes "--output" ∷ codes "n" ∷ codes "--folder" ∷ codes "f" ∷ []

snapshot_named : subcommand_of_rows (found_on snapshot_words) ≡ Snapshot
unfolding clap_on_literals command_line replay_command upgrade_command slim_command snapshot_command inspect_command explain_command settings_command
snapshot_named = refl

snapshot_taken : takes command_line snapshot_words ≡ true
unfolding clap_on_literals command_line replay_command upgrade_command slim_command snapshot_command inspect_command explain_command settings_command
snapshot_taken = refl

snapshot_folder : file_of (found_on snapshot_words) (codes "folder") ≡ codes "f"
unfolding clap_on_literals command_line replay_command upgrade_command slim_command snapshot_command inspect_command explain_command settings_command
snapshot_folder = refl

snapshot_output : file_of (found_on snapshot_words) (codes "output") ≡ codes "n"
unfolding clap_on_literals command_line replay_command upgrade_command slim_command snapshot_command inspect_command explain_command settings_command
snapshot_output = refl

no_skip : is_given (found_on snapshot_words) (codes "skip") ≡ false
unfolding clap_on_literals command_line replay_command upgrade_command slim_command snapshot_command inspect_command explain_command settings_command
no_skip = refl

skipping_taken : fault_of command_line skipping_words ≡ []
unfolding clap_on_literals command_line replay_command upgrade_command slim_command snapshot_command inspect_command explain_command settings_command
skipping_taken = refl

skip : is_given (found_on skipping_words) (codes "skip") ≡ true
unfolding clap_on_literals command_line replay_command upgrade_command slim_command snapshot_command inspect_command explain_command settings_command
skip = refl

no_folder : fault_of command_line (codes "snapshot" ∷ codes "--output" ∷ codes "n" ∷ []) ≡ MissingRequiredArgument ∷ []
unfolding clap_on_literals command_line replay_command upgrade_command slim_command snapshot_command inspect_command explain_command settings_command
no_folder = refl

abbrev inspect_words : List Text
inspect_words = codes "inspect" ∷ codes "--capture" ∷ codes "c" ∷ []

abbrev explain_words : List Text
explain_words = codes "explain" ∷ codes "--snapshot" ∷ codes "s" ∷ codes "--capture" ∷ codes "c" ∷ codes "--messages" ∷ codes "m" ∷ codes "--settings" ∷ codes "t" ∷ []

inspected : subcommand_of_rows (found_on inspect_words) ≡ Inspect
unfolding clap_on_literals command_line replay_command upgrade_command slim_command snapshot_command inspect_command explain_command settings_command
inspected = refl

inspect_taken : fault_of command_line inspect_words ≡ []
unfolding clap_on_literals command_line replay_command upgrade_command slim_command snapshot_command inspect_command explain_command settings_command
inspect_taken = refl

inspect_capture : file_of (found_on inspect_words) (codes "capture") ≡ codes "c"
unfolding clap_on_literals command_line replay_command upgrade_command slim_command snapshot_command inspect_command explain_command settings_command
inspect_capture = refl

inspect_nothing : fault_of command_line (codes "inspect" ∷ []) ≡ MissingRequiredArgument ∷ []
unfolding clap_on_literals command_line replay_command upgrade_command slim_command snapshot_command inspect_command explain_command settings_command
inspect_nothing = refl

explained : subcommand_of_rows (found_on explain_words) ≡ Explain
unfolding clap_on_literals command_line replay_command upgrade_command slim_command snapshot_command inspect_command explain_command settings_command
explained = refl

explain_taken : fault_of command_line explain_words ≡ []
unfolding clap_on_literals command_line replay_command upgrade_command slim_command snapshot_command inspect_command explain_command settings_command
explain_taken = refl

explain_messages : file_of (found_on explain_words) (codes "messages") ≡ codes "m"
unfolding clap_on_literals command_line replay_command upgrade_command slim_command snapshot_command inspect_command explain_command settings_command
explain_messages = refl

explain_settings : value_of (found_on explain_words) (codes "settings") ≡ Some (codes "t")
unfolding clap_on_literals command_line replay_command upgrade_command slim_command snapshot_command inspect_command explain_command settings_command
explain_settings = refl

no_engine_of_a_table : fault_of command_line (codes "explain" ∷ codes "--engine" ∷ codes "plain" ∷ []) ≡ UnknownArgument ∷ []
unfolding clap_on_literals command_line replay_command upgrade_command slim_command snapshot_command inspect_command explain_command settings_command
no_engine_of_a_table = refl
