-- A command with one more argument or subcommand, and what becomes of an error.
use Rattle.std.proofs.Common.{◌≡◌, Bool, true, false, List, [], ◌∷◌, inl, inr, refl, ◌∙◌, ap, ap₂, IfOk, IsOkAnd, Result, Ok, Err}
use Rattle.clap.specs.Words.{AddsArg, AddsSubcommand, App, HasKind, Kinds, Rule, Text, app_of, fault_of, is_simple, is_simple_and_free, kind_of, rule_of, takes, with_rule, with_subcommand}
use Rattle.clap.specs.declared.builder.Arg.{Arg}
use Rattle.clap.specs.declared.builder.Command.{Command}
use Rattle.clap.specs.declared.builder.Command.TheViews.{out-Command}
use Rattle.clap.specs.declared.error.Error.{Error}
use Rattle.clap.specs.declared.error.ErrorKind.TheVariants.{OutOfMemory}
use Rattle.clap.proofs.OnLiterals.{clap_on_literals}
use Rattle.std.specs.declared.alloc.AllocError.{AllocError}
use Rattle.command_line.specs.declared.words.WordFault.{WordFault}
use Rattle.command_line.specs.declared.words.WordFault.TheVariants as faults
use Rattle.command_line.specs.CommandLine.{Becomes, IsRefusal, command_line, explain_command, inspect_command, replay_command, settings_command, slim_command, snapshot_command, upgrade_command}

not_true : (b : Bool) → (b ≡ true → ⊥) → b ≡ false
not_true true no_way = absurd (no_way refl)
not_true false no_way = refl

-- the rules that a command has so far, where no argument holds for its subcommands too
pub record HasRules (command : Command) (app : App) : Type 0 where
  pub app_is : app_of command ≡ app
  pub local : (out-Command command).has_globals ≡ false

-- one more argument
pub added : (old new : Command) (a : Arg) (app : App) (rule : Rule) → HasRules old app → AddsArg old a new → rule_of a ≡ rule → a.global ≡ false
    → HasRules new (with_rule app rule)
added old new a app rule before adds rule_is local = record {
  app_is = adds.shape local ∙ ap₂ with_rule before.app_is rule_is;
  local = adds.globals ∙ rw (before.local, local) refl;
}

-- one more subcommand, which was made with these rules
pub with_one_more : (old new : Command) (made : Result Command AllocError) (app sub : App) → app_of old ≡ app
    → IfOk made (λ s. app_of s ≡ sub) → IfOk made (λ s. (out-Command s).has_globals ≡ false)
    → IsOkAnd made (λ s. AddsSubcommand old s new) → app_of new ≡ with_subcommand app sub.top
with_one_more old new (Ok s) app sub before is local adds = adds.shape local ∙ ap₂ with_subcommand before (ap (λ (a : App). a.top) is)
with_one_more old new (Err e) app sub before is local adds = absurd adds

pub simple : is_simple command_line ≡ true
unfolding clap_on_literals command_line replay_command upgrade_command slim_command snapshot_command inspect_command explain_command settings_command
simple = refl

pub free : is_simple_and_free command_line ≡ true
unfolding clap_on_literals command_line replay_command upgrade_command slim_command snapshot_command inspect_command explain_command settings_command
free = refl

-- where no kind is among those that may come, an error is of memory
only_memory : (kinds : Kinds) (error : Error) → kinds ≡ [] → HasKind kinds error → kind_of error ≡ OutOfMemory
only_memory [] error none (inl memory) = memory
only_memory [] error none (inr bad) = absurd bad
only_memory (kind ∷ kinds) error none has = cc

pub refused : (words : List Text) (kinds : Kinds) (error : Error) (fault : WordFault) → kinds ≡ fault_of command_line words
    → (takes command_line words ≡ true → kind_of error ≡ OutOfMemory) → HasKind kinds error → Becomes (kind_of error) fault
    → IsRefusal words fault
refused words kinds error (faults.Words text) same passes has becomes =
    (not_true _ (λ taken. becomes (passes taken)), λ none. becomes (only_memory kinds error (same ∙ none) has))
refused words kinds error faults.Engine same passes has becomes = becomes
refused words kinds error faults.Format same passes has becomes = becomes
refused words kinds error faults.Speed same passes has becomes = becomes
refused words kinds error faults.Memory same passes has becomes = tt
