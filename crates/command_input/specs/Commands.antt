-- A command as contracts speak of it.
use Rattle.command_input.specs.declared.words.Command as words
use Rattle.command_input.specs.declared.words.Command.TheVariants.{Run}
use Rattle.command_input.specs.declared.words.RunWords.{RunWords}
use Rattle.command_input.specs.Words.{RunCommand, Command, run}

-- the words of a command, as lists of bytes
abbrev pub run_in : RunWords → RunCommand
run_in words = record {
  policy = words.policy.now;
  prices = words.prices.now;
  query = words.query.now;
  seed = words.seed;
  schedule = words.schedule;
}

abbrev pub command_in : words.Command → Command
command_in (Run words) = run (run_in words)
