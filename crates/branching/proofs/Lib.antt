mod Saying
mod Runs
