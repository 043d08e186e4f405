mod Runs
mod Stages
