pub mod MeterLemmas
mod ShellLemmas
