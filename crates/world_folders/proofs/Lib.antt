mod Pushed
mod FolderLemmas
mod ReadLogs
mod MarkFaults
mod Gathered
